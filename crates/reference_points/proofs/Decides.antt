-- Decisions of a claim, and how they are put together. A decision computes: to `yes` with a proof, or to `no` with a refutation.
use mathlib.Core.Logic.Dec
use mathlib.Core.{Path.{◌≡◌, refl, sym, subst}, Bool.{Bool, true, false}, Logic.{◌⊎◌, inl, inr, ⊎_elim}, List.{List, [], ◌∷◌}}
use Rattle.protocol.{specs.Order.{In, here, there}, proofs.{Tests.never, Order.Log.in_nil}}

-- whether a claim was found to hold, and what it tells
unfoldable pub holds : {P : Type 0} → Dec P → Bool
holds (yes p) = true
holds (no n) = false

pub from_yes : {P : Type 0} (d : Dec P) → holds d ≡ true → P
unfolding holds
from_yes (yes p) e = p
from_yes (no n) e = never (sym e)

pub from_no : {P : Type 0} (d : Dec P) → holds d ≡ false → P → ⊥
unfolding holds
from_no (yes p) e = never e
from_no (no n) e = n

-- the same claim in other words
unfoldable pub reworded : {P Q : Type 0} → (P → Q) → (Q → P) → Dec P → Dec Q
reworded f g (yes p) = yes (f p)
reworded f g (no n) = no (λ q. n (g q))

-- or, implies; `Dec.and` and `Dec·not` are the library's
unfoldable pub dec_or : {P Q : Type 0} → Dec P → Dec Q → Dec (P ⊎ Q)
dec_or (yes p) d = yes (inl p)
dec_or (no n) (yes q) = yes (inr q)
dec_or (no n) (no m) = no (⊎_elim n m)

unfoldable pub dec_if : {P Q : Type 0} → Dec P → Dec Q → Dec (P → Q)
dec_if (yes p) (yes q) = yes (λ x. q)
dec_if (yes p) (no n) = no (λ f. n (f p))
dec_if (no n) d = yes (λ x. absurd (n x))

-- a claim of each element of a list, and of some element
module _ {A : Type 0} {P : A → Type 0} (d : (x : A) → Dec (P x)) where
  unfoldable pub dec_every : (xs : List A) → Dec ((x : A) → In x xs → P x)
  unfolding Dec.and reworded
  dec_every [] = yes (λ x i. absurd (in_nil i))
  dec_every (x ∷ xs) = reworded to (λ h. (h x (here refl), λ y i. h y (there i))) (Dec.and (d x) (dec_every xs))
    where
      to : P x × ((y : A) → In y xs → P y) → (y : A) → In y (x ∷ xs) → P y
      to h y (here e) = subst P (sym e) h.0
      to h y (there i) = h.1 y i

  unfoldable pub dec_some : (xs : List A) → Dec ((x : A) × In x xs × P x)
  unfolding dec_or reworded
  dec_some [] = no (λ h. in_nil h.1)
  dec_some (x ∷ xs) = reworded to (λ h. from h.0 h.1 h.2) (dec_or (d x) (dec_some xs))
    where
      to : P x ⊎ ((y : A) × In y xs × P y) → (y : A) × In y (x ∷ xs) × P y
      to (inl p) = (x, here refl, p)
      to (inr h) = (h.0, there h.1, h.2)

      from : (y : A) → In y (x ∷ xs) → P y → P x ⊎ ((y : A) × In y xs × P y)
      from y (here e) p = inl (subst P e p)
      from y (there i) p = inr (y, i, p)
