-- Each part behind the one before it.
use Rattle.std.proofs.Common.{◌++◌, ◌∷◌, []}
use Rattle.std.proofs.KnownBytes.{Appends-trans}
use Rattle.runner.proofs.Saying.{some_first, some_then, gave_then, gave_err}
use Rattle.runner.proofs.streams.say.Goals as goal

pub returns-in_err-write_all : goal.returns-in_err-write_all
returns-in_err-write_all g c =
    let a = c.args in
    gave_err _ _ _ _ c.from_residual.ensures.0
    (some_first _ _ (a.program.now ++ a.what.now) _ (some_first _ _ a.program.now a.what.now c.in_err-write_all.ensures.bytes))

pub returns-in_err-write_all-2 : goal.returns-in_err-write_all-2
returns-in_err-write_all-2 g c =
    let a = c.args in
    gave_err _ _ _ _ c.from_residual-in_err-write_all-2.ensures.0
    (some_first _ _ (a.program.now ++ a.what.now) _ (some_then _ _ _ a.program.now a.what.now c.in_ok-write_all.ensures.bytes c.in_err-write_all-2.ensures.bytes))

pub returns-in_err-write_all-3 : goal.returns-in_err-write_all-3
returns-in_err-write_all-3 g c =
    let a = c.args in
    gave_err _ _ _ _ c.from_residual-in_err-write_all-3.ensures.0
    (some_then _ _ _ (a.program.now ++ a.what.now) (a.words.now ++ 10 ∷ [])
    (Appends-trans _ _ _ a.program.now a.what.now c.in_ok-write_all.ensures.bytes c.in_ok-write_all-2.ensures.bytes)
    (some_first _ _ a.words.now (10 ∷ []) c.in_err-write_all-3.ensures.bytes))

pub returns : goal.returns
returns g c =
    let a = c.args in
    gave_then _ _ _ (a.program.now ++ a.what.now) (a.words.now ++ 10 ∷ []) _
    (Appends-trans _ _ _ a.program.now a.what.now c.in_ok-write_all.ensures.bytes c.in_ok-write_all-2.ensures.bytes)
    (gave_then _ _ _ a.words.now (10 ∷ []) _ c.in_ok-write_all-3.ensures.bytes c.write_all-4.ensures.bytes)
