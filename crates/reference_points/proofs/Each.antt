-- A table's rule by one computation over its entries.
use mathlib.Core.{Path.◌≡◌, List.{List, [], ◌∷◌, map}}
use Rattle.reference_points.specs.Rows.{Each, Agree}

-- what two functions that agree at an entry tell of it holds of each entry where they give the same list
pub each : {A B : Type 0} (f g : A → B) {P : A → Type 0} → ((x : A) → f x ≡ g x → P x) → (xs : List A) → map f xs ≡ map g xs → Each P xs
each f g tells [] e = tt
each f g tells (x ∷ xs) e = (tells x (cc), each f g tells xs (cc))

pub agree : {A B : Type 0} (f g : A → B) (xs : List A) → map f xs ≡ map g xs → Agree f g xs
agree f g xs e = each f g (λ x same. same) xs e
