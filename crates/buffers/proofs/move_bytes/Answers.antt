-- By the move: each copies one line to its place.
use mathlib.Core.{Path.{◌≡◌, sym, ◌∙◌}, Bool.true}
use lib.ListN.{length}
use native.Mathlib.Omega.{arith}
use borrow.Author.Rules.{rules}
use Rattle.protocol.{specs.{Buffers.{moved_private, moved_shared}, Given.bytes_as}, proofs.{Tests.never, Digits.count_given}}
use Rattle.refusals.specs.Input.{lengths_fit}
use Rattle.buffers.specs.Moves.{move_fits}
use Rattle.buffers.proofs.Moving.{Fitting, fitting, Starts, starts, as_still, as_moved}
use Rattle.buffers.proofs.move_bytes.Goals as goal
use Rattle.buffers.proofs.move_bytes.Goals.{Else-not-given_fits, in-Still, in_default}

-- past the tests, the places and the lengths fit
fitted :
    (c : Else-not-given_fits)
    → (let a = c.args in
    Fitting a.moves a.opening a.core a.line (bytes_as a.read a.given.now) a.private.now a.shared.now)
unfolding move_fits
fitted c =
    let a = c.args in
    let e : lengths_fit a.opening (length a.private.now) (length a.shared.now) ≡ true = sym c.lengths_fit.ensures ∙ c.if-not-lengths_fit.false in
    fitting _ _ _ _ _ _ _ (rw (count_given, c.in-Some.ensures.0, e, ← c.count.ensures, ← c.given_fits.ensures) c.if-not-given_fits.false)

-- and these are the places
placed : (c : Else-not-given_fits) → (let a = c.args in Starts c.in-Some.at a.opening a.core a.line)
placed c = let e = c.in-Some.ensures in starts e.1 e.2 e.3

pub returns-then-matches : goal.returns-then-matches
returns-then-matches c =
    elim c.match-matches.branch [
      | in-Still w ↦ as_still w.in-Still.is
      | in_default w ↦ never (sym c.if-matches.true ∙ w.matches-is)
    ]

pub returns-in_default-of : goal.returns-in_default-of
unfolding move_fits
returns-in_default-of c = let e = c.in_default-of.ensures in record { private = rw e; shared = rw e }

pub returns-then-not-lengths_fit : goal.returns-then-not-lengths_fit
unfolding move_fits
returns-then-not-lengths_fit c =
    let e = c.in-Some.ensures.0 in
    let f = sym c.lengths_fit.ensures ∙ c.if-not-lengths_fit.true in
    record { private = rw (e, f); shared = rw (e, f) }

pub returns-then-not-given_fits : goal.returns-then-not-given_fits
unfolding move_fits
returns-then-not-given_fits c =
    let e = c.in-Some.ensures.0 in
    let f = sym c.lengths_fit.ensures ∙ c.if-not-lengths_fit.false in
    let g = sym c.given_fits.ensures ∙ c.if-not-given_fits.true in
    record { private = rw (count_given, ← c.count.ensures, e, f, g); shared = rw (count_given, ← c.count.ensures, e, f, g) }

pub put_given-requires : goal.put_given-requires
put_given-requires c =
    let t = (goal.at.put_given-requires c).Else-not-given_fits in
    let s = (fitted t).store c.in-Store.is in
    let p = placed t in
    omega arith

pub shift_line-requires : goal.shift_line-requires
shift_line-requires c =
    let t = (goal.at.shift_line-requires c).Else-not-given_fits in
    let f = fitted t in
    let p = placed t in
    (f.there.width, omega arith, omega arith)

pub move_line-requires : goal.move_line-requires
move_line-requires c =
    let t = (goal.at.move_line-requires c).Else-not-given_fits in
    let f = fitted t in
    let p = placed t in
    (omega arith, omega arith)

pub move_line-requires-in-Writeback : goal.move_line-requires-in-Writeback
move_line-requires-in-Writeback c =
    let t = (goal.at.move_line-requires-in-Writeback c).Else-not-given_fits in
    let f = fitted t in
    let p = placed t in
    (omega arith, omega arith)

pub shift_line-requires-in-Take : goal.shift_line-requires-in-Take
shift_line-requires-in-Take c =
    let t = (goal.at.shift_line-requires-in-Take c).Else-not-given_fits in
    let f = fitted t in
    let p = placed t in
    (f.there.width, omega arith, omega arith)

pub returns-in-Store : goal.returns-in-Store
unfolding moved_private moved_shared
returns-in-Store c =
    let t = (goal.at.returns-in-Store c).Else-not-given_fits in
    let e = c.in-Store.is in
    let p = placed t in
    as_moved (fitted t) _ _ (rw e (search rules)) (rw e)

pub returns-in-Answer : goal.returns-in-Answer
unfolding moved_private moved_shared
returns-in-Answer c =
    let t = (goal.at.returns-in-Answer c).Else-not-given_fits in
    let e = c.in-Answer.is in
    let p = placed t in
    as_moved (fitted t) _ _ (rw e) (rw e (search rules))

pub returns-in-Receive : goal.returns-in-Receive
unfolding moved_private moved_shared
returns-in-Receive c =
    let t = (goal.at.returns-in-Receive c).Else-not-given_fits in
    let e = c.in-Receive.is in
    let p = placed t in
    as_moved (fitted t) _ _ (rw e (search rules)) (rw e)

pub returns-in-Writeback : goal.returns-in-Writeback
unfolding moved_private moved_shared
returns-in-Writeback c =
    let t = (goal.at.returns-in-Writeback c).Else-not-given_fits in
    let e = c.in-Writeback.is in
    let p = placed t in
    as_moved (fitted t) _ _ (rw e) (rw e (search rules))

pub returns-in-Take : goal.returns-in-Take
unfolding moved_private moved_shared
returns-in-Take c =
    let t = (goal.at.returns-in-Take c).Else-not-given_fits in
    let e = c.in-Take.is in
    let p = placed t in
    as_moved (fitted t) _ _ (rw e) (rw e (search rules))
