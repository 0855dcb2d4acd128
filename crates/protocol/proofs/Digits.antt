-- What is given in digits: 13 is answered exactly where the digits spell nothing, and a store in digits is the store of the bytes spelt.
use Prim.Native.Nat.{ℕ, ◌%◌}
use mathlib.Core.{Path.{◌≡◌, refl, ◌∙◌, ap}, Bool.{Bool, true, false}, List.{[], ◌∷◌}, Logic.{◌⊎◌, inl, inr, ⊎_elim}}
use native.Mathlib.Omega.{arith}
use lib.{Dec.{leb, eqb}, ListN.length}
use borrow.Author.Tests.{leb-true, le-leb, lt-leb, eqb-false, ne_eqb}
use Rattle.spelling.specs.{Bytes.All, Hex.{unhex, Spells, IsData, HexDigit}}
use Rattle.spelling.proofs.HexLaws.{spelt, spells_length, hex_digits, unhex_hex, unhex_length}
use Rattle.protocol.specs.{Pick.{pick, both, fails, every, first}, Buffers.Bytes, Given.{bytes_as, count_as}, Machine.Machine}
use Rattle.protocol.specs.Refusals.{is_digit, digit_rules, call_rules, call_refusal, state_rules, state_refusal, refusal}
use Rattle.protocol.specs.{Tables.table_of, Step.{refused, accepted, step}, Digits.DigitsTheorem}
use Rattle.protocol.specs.declared.{Call.TheVariants.Store, Given.{Given, TheVariants.{Bytes as AsBytes, Digits as AsDigits}}}
use Rattle.protocol.proofs.{Tests.both_true, Refusals.{not-true, passed}}

-- ---- the test of digits

is_digit_lem : (b : ℕ) → is_digit b ≡ true → HexDigit b
is_digit_lem b e = go (both (leb 48 b) (leb b 57)) refl e
  where
    go : (t : Bool) → both (leb 48 b) (leb b 57) ≡ t → pick t true (both (leb 97 b) (leb b 102)) ≡ true → HexDigit b
    go true q h = let x = both_true (leb 48 b) (leb b 57) q in inl (leb-true _ _ x.0, leb-true _ _ x.1)
    go false q h = let x = both_true (leb 97 b) (leb b 102) h in inr (leb-true _ _ x.0, leb-true _ _ x.1)

digit_is : (b : ℕ) → HexDigit b → is_digit b ≡ true
digit_is b (inl h) = rw (le-leb 48 b h.0, le-leb b 57 h.1)
digit_is b (inr h) = rw (le-leb 48 b (omega arith), lt-leb b 57 (omega arith), le-leb 97 b h.0, le-leb b 102 h.1)

all_digits : (ds : Bytes) → every is_digit ds ≡ true → All HexDigit ds
unfolding every
all_digits [] e = tt
all_digits (d ∷ ds) e = let x = both_true (is_digit d) (every is_digit ds) e in (is_digit_lem d x.0, all_digits ds x.1)

digits_all : (ds : Bytes) → All HexDigit ds → every is_digit ds ≡ true
unfolding every
digits_all [] a = refl
digits_all (d ∷ ds) a = rw (digit_is d a.0) (digits_all ds a.1)

-- ---- 13

-- digits that are not 13 spell the bytes of `unhex`
pub right_digits : (ds : Bytes) → first (digit_rules ds) ≡ 0 → Spells ds (unhex ds)
unfolding digit_rules
right_digits ds e =
    let a = passed (eqb (length ds) 0) 13 _ (omega arith) e in
    let b = passed (eqb (length ds % 2) 1) 13 _ (omega arith) a.1 in
    let c = passed (fails (every is_digit ds)) 13 [] (omega arith) b.1 in
    spelt ds (all_digits ds (not-true (every is_digit ds) c.0)) (omega (arith, eqb-false (length ds % 2) 1 b.0)) (omega (arith, eqb-false (length ds) 0 a.0))

-- and what spells bytes is not 13
pub digits_right : (ds bs : Bytes) → Spells ds bs → first (digit_rules ds) ≡ 0
unfolding digit_rules first
digits_right ds bs s =
    let n = spells_length ds bs s in
    let a : (length ds ≡ 0 → ⊥) = λ e. omega (arith, n, s.some) in
    let b : (length ds % 2 ≡ 1 → ⊥) = λ e. omega (arith, n) in
    rw (ne_eqb (length ds) 0 a, ne_eqb (length ds % 2) 1 b, digits_all ds (rw s.same (hex_digits bs s.bytes)))

-- the rules give 13 or nothing
thirteen : (a b c : Bool) → let n : ℕ = pick a 13 (pick b 13 (pick c 13 0)) in (n ≡ 0) ⊎ (n ≡ 13)
thirteen true b c = inr refl
thirteen false true c = inr refl
thirteen false false true = inr refl
thirteen false false false = inl refl

-- what spells nothing is 13
pub digits_wrong : (ds : Bytes) → (IsData ds → ⊥) → first (digit_rules ds) ≡ 13
unfolding digit_rules first
digits_wrong ds n =
    ⊎_elim (λ e. absurd (n (unhex ds, right_digits ds e))) (λ e. e) (thirteen (eqb (length ds) 0) (eqb (length ds % 2) 1) (fails (every is_digit ds)))

-- ---- what is given

-- as many bytes as are given
pub count_given : (g : Given) (given : Bytes) → length (bytes_as g given) ≡ count_as g (length given)
count_given AsBytes given = refl
count_given AsDigits given = unhex_length given

-- ---- the store

module _ (m : Machine) (c l : ℕ) (ds : Bytes) where
  store_spelt : (bs : Bytes) → Spells ds bs → step m (Store AsDigits c l) ds ≡ step m (Store AsBytes c l) bs
  unfolding step refusal call_refusal call_rules state_refusal state_rules table_of accepted
  store_spelt bs s =
      let e : unhex ds ≡ bs = ap unhex s.same ∙ unhex_hex bs s.bytes in
      rw (digits_right ds bs s, e)

  store_refused : (IsData ds → ⊥) → step m (Store AsDigits c l) ds ≡ record { reply = refused 13; machine = m }
  unfolding step refusal
  store_refused n = rw (digits_wrong ds n)

pub digits_theorem : DigitsTheorem
digits_theorem m c l ds = (store_spelt m c l ds, store_refused m c l ds)
