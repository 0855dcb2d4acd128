-- What writes of one part after another gave of the whole.
use Rattle.std.proofs.Common.{false, true, ◌≡◌, ℕ, ◌+◌, List, ◌++◌, arith, length, take, sym, subst, length-append}
use Rattle.std.proofs.lemmas.List.{take-append-le}
use Rattle.std.proofs.Math.Seq.{take-append-add}
use Rattle.std.specs.Prelude.{Option, Result, Ok, Err, IsErr}
use Rattle.std.specs.Io.KnownBytes.{Appends}
use Rattle.std.proofs.KnownBytes.{Appends-trans}
use Rattle.runner.specs.Moved.{Gave, GaveSome}

-- a beginning of the first part is one of the whole
pub some_first : (old new : Option (List ℕ)) (a b : List ℕ) → GaveSome old new a → GaveSome old new (a ++ b)
some_first old new a b (n, h, x) = (n, omega (arith, length-append a b), subst (Appends old new) (sym (take-append-le n a b h)) x)

-- the first part and a beginning of the rest are one
pub some_then : (old mid new : Option (List ℕ)) (a b : List ℕ) → Appends old mid a → GaveSome mid new b → GaveSome old new (a ++ b)
some_then old mid new a b x (n, h, y) =
    (length a + n, omega (arith, length-append a b), subst (Appends old new) (sym (take-append-add a b n)) (Appends-trans old mid new a (take n b) x y))

-- the first part and what was given of the rest
pub gave_then :
    {T E : Type 0} (old mid new : Option (List ℕ)) (a b : List ℕ) (r : Result T E) → Appends old mid a → Gave mid new r b → Gave old new r (a ++ b)
gave_then old mid new a b (Ok v) x y = Appends-trans old mid new a b x y
gave_then old mid new a b (Err e) x y = some_then old mid new a b x y

-- where a write failed, a beginning of the whole was given
pub gave_err : {T E : Type 0} (old new : Option (List ℕ)) (a : List ℕ) (r : Result T E) → IsErr r → GaveSome old new a → Gave old new r a
gave_err old new a (Ok v) e x = absurd (let z : false ≡ true = e in cc)
gave_err old new a (Err w) e x = x
