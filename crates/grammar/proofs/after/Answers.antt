-- `grammar::after` meets its contract. Assumes nothing.
use Prim.Native.Nat.{ℕ, ◌+◌, ◌-◌}
use mathlib.Core.{Path.{◌≡◌, refl, ap, ◌∙◌}, Bool.{Bool, true}, List.{List, ◌++◌}}
use lib.{Dec.eqb, ListN.{length, take, drop}, Seq.drop-drop}
use Rattle.std.specs.List.{starts_with}
use Rattle.std.proofs.lemmas.{Bool.Decides.Decides-eqb, List.take_rest, Slice.Eq.starts_is}
use Rattle.grammar.proofs.after.Goals as goal

-- what a test says of whether the text t is in the line s at an offset
told : (s t : List ℕ) (at : ℕ) (r : Bool) → r ≡ starts_with eqb (take (length s - at) (drop at s)) t
    → (r ≡ true → drop at s ≡ t ++ drop (at + length t) s) × ((u : List ℕ) → drop at s ≡ t ++ u → r ≡ true)
told s t at r e =
    let h = starts_is {E = eqb} Decides-eqb (drop at s) t r (rw (take_rest s at) at e) in
    (λ x. h.0 x ∙ ap (λ (l : List ℕ). t ++ l) (drop-drop (length t) at s), h.1)

pub returns-then-starts_with : goal.returns-then-starts_with
returns-then-starts_with c = ((told c.args.line.now c.args.text.now c.args.at _ c.starts_with.ensures.value).0 c.if-starts_with.true, refl)

pub returns-else-starts_with : goal.returns-else-starts_with
returns-else-starts_with c = λ u e. let x = (told c.args.line.now c.args.text.now c.args.at _ c.starts_with.ensures.value).1 u e in (cc)
