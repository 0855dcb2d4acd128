-- `whole::list` meets its contract: `start` alone, or `start` and `play` on buffers of zeros in what is left of the output; the engine that was opened
-- fits, so the parts lie in the arrays. Assumes nothing.
use Rattle.std.proofs.Common.{arith, sym, ap, ◌∙◌, replicate}
use Rattle.protocol.proofs.Extents.{inside, length_inside, private_most, shared_most}
use Rattle.driver.proofs.Starting.{start_fits}
use Rattle.playing.proofs.{Calling.{goes_on, part_zeros}, Progressing.start_resumes}
use Rattle.whole.proofs.Lists.{start_lists, play_lists}
use Rattle.whole.proofs.list.Goals as goal

pub returns-then-not-more_to_play : goal.returns-then-not-more_to_play
returns-then-not-more_to_play c = rw c.end_of.ensures (start_lists c.start-played.ensures (sym c.more_to_play.ensures ∙ c.if-not-more_to_play.true))

pub slice_bounds-private-end : goal.slice_bounds-private-end
slice_bounds-private-end c =
    let fits = start_fits c.start-played.ensures (goes_on _ (sym c.more_to_play.ensures ∙ c.if-not-more_to_play.false)) in
    omega (arith, length_inside _ _ _ fits c.private_length.ensures, private_most (inside _ fits))

pub slice_bounds-shared-end : goal.slice_bounds-shared-end
slice_bounds-shared-end c =
    let fits = start_fits c.start-played.ensures (goes_on _ (sym c.more_to_play.ensures ∙ c.if-not-more_to_play.false)) in
    omega (arith, length_inside _ _ _ fits c.shared_length.ensures, shared_most (inside _ fits))

pub returns : goal.returns
returns c =
    let goes = goes_on _ (sym c.more_to_play.ensures ∙ c.if-not-more_to_play.false) in
    let fits = start_fits c.start-played.ensures goes in
    let n = length_inside _ _ _ fits c.private_length.ensures in
    let m = length_inside _ _ _ fits c.shared_length.ensures in
    rw c.end_of-2.ensures
    (play_lists c.start-played.ensures c.play-rest.ensures goes (start_resumes c.start-played.ensures goes)
    (part_zeros _ 65536 (omega (arith, n, private_most (inside _ fits))) ∙ ap (λ k. replicate k 0) n)
    (part_zeros _ 9216 (omega (arith, m, shared_most (inside _ fits))) ∙ ap (λ k. replicate k 0) m))
