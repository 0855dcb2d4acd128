-- The first call plays the journal whole, or the calls of `play` do on buffers of zeros: the engine that was opened fits, so the parts lie in the arrays.
use Rattle.std.proofs.Common.{arith, sym, ap, ◌∙◌, replicate}
use Rattle.std.proofs.lemmas.Result.{err_from_is_err_and}
use Rattle.protocol.proofs.Extents.{inside, length_inside, private_most, shared_most}
use Rattle.runner.proofs.Calling.{whole_cut, whole_over, whole_more, whole_fits, whole_played}
use Rattle.playing.proofs.Calling.{part_zeros}
use Rattle.runner.proofs.play_whole.Goals as goal

pub returns-in_err-keep : goal.returns-in_err-keep
returns-in_err-keep g c =
    let p = err_from_is_err_and c.from_residual.result c.from_residual.ensures.1 in
    rw p.1 (whole_cut c.start-played.ensures (omega (arith, c.start-played.auto)) c.in_err-keep.ensures)

pub returns-then-not-more_to_play : goal.returns-then-not-more_to_play
returns-then-not-more_to_play g c =
    whole_over c.start-played.ensures (omega (arith, c.start-played.auto)) c.in_ok-keep.ensures (sym c.more_to_play.ensures ∙ c.if-not-more_to_play.true)

pub slice_bounds-private-end : goal.slice_bounds-private-end
slice_bounds-private-end g c =
    let fits = whole_fits c.start-played.ensures (omega (arith, c.start-played.auto)) (sym c.more_to_play.ensures ∙ c.if-not-more_to_play.false) in
    omega (arith, length_inside _ _ _ fits c.private_length.ensures, private_most (inside _ fits))

pub slice_bounds-shared-end : goal.slice_bounds-shared-end
slice_bounds-shared-end g c =
    let fits = whole_fits c.start-played.ensures (omega (arith, c.start-played.auto)) (sym c.more_to_play.ensures ∙ c.if-not-more_to_play.false) in
    omega (arith, length_inside _ _ _ fits c.shared_length.ensures, shared_most (inside _ fits))

pub play_on-requires-clause-resumable : goal.play_on-requires-clause-resumable
play_on-requires-clause-resumable g c =
    (whole_more c.start-played.ensures (omega (arith, c.start-played.auto)) (sym c.more_to_play.ensures ∙ c.if-not-more_to_play.false)).1

pub returns : goal.returns
returns g c =
    let more = sym c.more_to_play.ensures ∙ c.if-not-more_to_play.false in
    let fits = whole_fits c.start-played.ensures (omega (arith, c.start-played.auto)) more in
    let n = length_inside _ _ _ fits c.private_length.ensures in
    let m = length_inside _ _ _ fits c.shared_length.ensures in
    whole_played c.start-played.ensures c.in_ok-keep.ensures (whole_more c.start-played.ensures (omega (arith, c.start-played.auto)) more).0
    (part_zeros _ 65536 (omega (arith, n, private_most (inside _ fits))) ∙ ap (λ k. replicate k 0) n)
    (part_zeros _ 9216 (omega (arith, m, shared_most (inside _ fits))) ∙ ap (λ k. replicate k 0) m) c.play_on.ensures
