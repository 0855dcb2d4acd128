-- Each call that goes on gets further on in the journal; the last one is finished.
use mathlib.Core.Path.{refl, sym, ◌∙◌}
use native.Mathlib.Omega.{arith}
use Rattle.std.proofs.lemmas.Result.{err_from_is_err_and}
use Rattle.runner.proofs.Calling.{called_start, call_cut, call_over, call_further, call_more}
use Rattle.runner.proofs.play_on.Goals as goal

pub loop-there-init : goal.loop-there-init
loop-there-init g c = (refl, refl, refl, called_start c.args.texts _ c.requires.resumable c.requires.room)

pub returns-in_err-keep : goal.returns-in_err-keep
returns-in_err-keep g c =
    let p = err_from_is_err_and c.from_residual.result c.from_residual.ensures.1 in
    rw p.1 (call_cut c.loop-there.invariant.3 c.play-played.ensures c.in_err-keep.ensures)

pub returns-then-not-more_to_play : goal.returns-then-not-more_to_play
returns-then-not-more_to_play g c =
    call_over c.loop-there.invariant.3 c.play-played.ensures c.in_ok-keep.ensures (sym c.more_to_play.ensures ∙ c.if-not-more_to_play.true)

pub loop-there-smaller : goal.loop-there-smaller
loop-there-smaller g c =
    let f = call_further c.loop-there.invariant.3 c.play-played.ensures (sym c.more_to_play.ensures ∙ c.if-not-more_to_play.false) in
    omega (arith, f.0, f.1)

pub loop-there-preserved : goal.loop-there-preserved
loop-there-preserved g c =
    let i = c.loop-there.invariant in (
      c.private-1.given ∙ i.0,
      c.shared-1.given ∙ i.1,
      c.out-1.given ∙ i.2,
      call_more i.3 c.play-played.ensures c.in_ok-keep.ensures (sym c.more_to_play.ensures ∙ c.if-not-more_to_play.false),
    )
