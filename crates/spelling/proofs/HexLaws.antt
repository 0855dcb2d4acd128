-- Laws of the hex spelling. Assumes nothing.
use Prim.Native.Nat.{ℕ, zero, suc, ◌+◌, ◌*◌, ◌/◌, ◌%◌, ◌≤◌, ◌<◌, ◌-◌}
use mathlib.Core.{Bool.{Bool, true, false}, Path.{◌≡◌, refl, ◌∙◌, ap, ap₂}, List.{List, [], ◌∷◌}, Logic.{◌⊎◌, inl, inr, ⊎_elim}}
use native.Mathlib.Omega.{arith}
use lib.ListN.{length, get_or}
use borrow.Author.Tests.{lt-ltb, le-ltb}
use Rattle.spelling.specs.{Bytes.{All, Byte, Test}, Hex.{digit, nibble, hex, unhex, Spells, IsData, DataTest, HexDigit}}
use Rattle.spelling.proofs.Lists.{le_or_lt, High, all_at}

nibble_below : (b : ℕ) → nibble b < 16
nibble_below b = omega arith

-- of the codes of 0 to 9, and of a to f
nibble_low : (b : ℕ) → 48 ≤ b → b ≤ 57 → nibble b ≡ b - 48
nibble_low b h k =
    let q : b / 64 ≡ 0 = omega arith in
    let r : b % 16 ≡ b - 48 = omega arith in
    rw (q, r) (omega arith)

nibble_high : (b : ℕ) → 97 ≤ b → b ≤ 102 → nibble b ≡ b - 87
nibble_high b h k =
    let q : b / 64 ≡ 1 = omega arith in
    let r : b % 16 ≡ b - 96 = omega arith in
    rw (q, r) (omega arith)

digit_nibble : (b : ℕ) → HexDigit b → digit (nibble b) ≡ b
digit_nibble b (inl h) = rw (nibble_low b h.0 h.1, lt-ltb (b - 48) 10 (omega arith)) (omega arith)
digit_nibble b (inr h) = rw (nibble_high b h.0 h.1, le-ltb (b - 87) 10 (omega arith)) (omega arith)

digit_is : (d : ℕ) → d < 16 → HexDigit (digit d)
digit_is d h =
    ⊎_elim (λ k. rw (le-ltb d 10 k) (inr (omega arith, omega arith))) (λ k. rw (lt-ltb d 10 k) (inl (omega arith, omega arith))) (le_or_lt 10 d)

-- half as many bytes as digits
pub unhex_length : (v : List ℕ) → length (unhex v) ≡ length v / 2
unfolding unhex
unhex_length [] = refl
unhex_length (x ∷ []) = refl
unhex_length (x ∷ (y ∷ r)) = omega (arith, unhex_length r)

unhex_spells : (v : List ℕ) → All HexDigit v → length v % 2 ≡ 0 → (All Byte (unhex v)) × (v ≡ hex (unhex v)) × (length v ≡ 2 * length (unhex v))
unfolding unhex hex
unhex_spells [] a e = (tt, refl, refl)
unhex_spells (x ∷ []) a e = absurd (omega arith)
unhex_spells (x ∷ (y ∷ r)) a e =
    let ih = unhex_spells r a.1.1 (omega arith) in
    let hx : nibble x < 16 = nibble_below x in
    let hy : nibble y < 16 = nibble_below y in
    let q : (nibble x * 16 + nibble y) / 16 ≡ nibble x = omega arith in
    let m : (nibble x * 16 + nibble y) % 16 ≡ nibble y = omega arith in
    ((omega arith, ih.0), rw (q, m, digit_nibble x a.0, digit_nibble y a.1.0) (ap (λ (l : List ℕ). x ∷ (y ∷ l)) ih.1), omega (arith, ih.2))

pub spelt : (v : List ℕ) → All HexDigit v → length v % 2 ≡ 0 → 0 < length v → Spells v (unhex v)
spelt v a e h =
    let u = unhex_spells v a e in
    record { some = omega (arith, u.2); bytes = u.0; same = u.1 }

-- the two digits after a pair
pair_on : (x y : ℕ) (l : List ℕ) (i : ℕ) → (get_or (x ∷ (y ∷ l)) (2 * suc i) 0 ≡ get_or l (2 * i) 0) × (get_or (x ∷ (y ∷ l)) (2 * suc i + 1) 0 ≡ get_or l (2 * i + 1) 0)
pair_on x y l i =
    let m : 2 * suc i ≡ suc (suc (2 * i)) = omega arith in
    let n : 2 * suc i + 1 ≡ suc (suc (2 * i + 1)) = omega arith in
    (ap (λ (k : ℕ). get_or (x ∷ (y ∷ l)) k 0) m, ap (λ (k : ℕ). get_or (x ∷ (y ∷ l)) k 0) n)

-- the byte of a pair of digits, and the digits of a byte
pub unhex_at : (v : List ℕ) (i : ℕ) → 2 * i + 1 < length v → get_or (unhex v) i 0 ≡ nibble (get_or v (2 * i) 0) * 16 + nibble (get_or v (2 * i + 1) 0)
unfolding unhex
unhex_at [] i h = absurd (omega arith)
unhex_at (x ∷ []) i h = absurd (omega arith)
unhex_at (x ∷ (y ∷ r)) zero h = refl
unhex_at (x ∷ (y ∷ r)) (suc i) h = let p = pair_on x y r i in rw (p.0, p.1) (unhex_at r i (omega arith))

pub hex_at : (bs : List ℕ) (i : ℕ) → i < length bs → (get_or (hex bs) (2 * i) 0 ≡ digit (get_or bs i 0 / 16)) × (get_or (hex bs) (2 * i + 1) 0 ≡ digit (get_or bs i 0 % 16))
unfolding hex
hex_at [] i h = absurd (omega arith)
hex_at (b ∷ bs) zero h = (refl, refl)
hex_at (b ∷ bs) (suc i) h =
    let p = pair_on (digit (b / 16)) (digit (b % 16)) (hex bs) i in
    let r = hex_at bs i (omega arith) in
    (p.0 ∙ r.0, p.1 ∙ r.1)

pub hex_digits : (bs : List ℕ) → All Byte bs → All HexDigit (hex bs)
unfolding hex
hex_digits [] a = tt
hex_digits (b ∷ bs) a = (digit_is (b / 16) (omega arith), (digit_is (b % 16) (omega arith), hex_digits bs a.1))

pub hex_length : (bs : List ℕ) → length (hex bs) ≡ 2 * length bs
unfolding hex
hex_length [] = refl
hex_length (b ∷ bs) = omega (arith, hex_length bs)

pub spells_length : (v bs : List ℕ) → Spells v bs → (length v ≡ 2 * length bs)
spells_length v bs s = ap length s.same ∙ hex_length bs

pub spells_at : (v bs : List ℕ) (i : ℕ) → Spells v bs → i < length v → HexDigit (get_or v i 0)
spells_at v bs i s h = rw s.same (all_at HexDigit (hex bs) (hex_digits bs s.bytes) i (rw s.same at h))

nibble_digit : (d : ℕ) → d < 16 → nibble (digit d) ≡ d
nibble_digit d h =
    ⊎_elim (λ k. rw (le-ltb d 10 k) (nibble_high (87 + d) (omega arith) (omega arith) ∙ omega arith))
    (λ k. rw (lt-ltb d 10 k) (nibble_low (48 + d) (omega arith) (omega arith) ∙ omega arith)) (le_or_lt 10 d)

-- what is printed of bytes stands for those bytes
pub unhex_hex : (bs : List ℕ) → All Byte bs → unhex (hex bs) ≡ bs
unfolding unhex hex
unhex_hex [] a = refl
unhex_hex (b ∷ bs) a =
    let e : b / 16 * 16 + b % 16 ≡ b = omega arith in
    rw (nibble_digit (b / 16) (omega arith), nibble_digit (b % 16) (omega arith), e, unhex_hex bs a.1)

-- data are spelt by the bytes that they stand for
pub data_spelt : (v : List ℕ) → IsData v → Spells v (unhex v)
data_spelt v (bs, s) = let e : unhex v ≡ bs = ap unhex s.same ∙ unhex_hex bs s.bytes in rw e s

digit_injective : (c d : ℕ) → digit c ≡ digit d → c ≡ d
digit_injective c d e = go (le_or_lt 10 c) (le_or_lt 10 d)
  where
    go : (10 ≤ c) ⊎ (c < 10) → (10 ≤ d) ⊎ (d < 10) → c ≡ d
    go (inl h) (inl k) = let i : 87 + c ≡ 87 + d = rw (le-ltb c 10 h, le-ltb d 10 k) at e in omega arith
    go (inl h) (inr k) = let i : 87 + c ≡ 48 + d = rw (le-ltb c 10 h, lt-ltb d 10 k) at e in omega arith
    go (inr h) (inl k) = let i : 48 + c ≡ 87 + d = rw (lt-ltb c 10 h, le-ltb d 10 k) at e in omega arith
    go (inr h) (inr k) = let i : 48 + c ≡ 48 + d = rw (lt-ltb c 10 h, lt-ltb d 10 k) at e in omega arith

-- two lists are not spelt alike, of bytes or of any numbers
pub hex_injective : (bs cs : List ℕ) → hex bs ≡ hex cs → bs ≡ cs
unfolding hex
hex_injective [] [] e = refl
hex_injective [] (c ∷ cs) e = absurd (let z : ◌≡◌ {A = ℕ} 0 1 = cc in omega arith)
hex_injective (b ∷ bs) [] e = absurd (let z : ◌≡◌ {A = ℕ} 0 1 = cc in omega arith)
hex_injective (b ∷ bs) (c ∷ cs) e =
    let q : b / 16 ≡ c / 16 = digit_injective (b / 16) (c / 16) (cc) in
    let r : b % 16 ≡ c % 16 = digit_injective (b % 16) (c % 16) (cc) in
    ap₂ (λ (n : ℕ) (l : List ℕ). n ∷ l) (omega arith) (hex_injective bs cs (cc))

digit_high : (d : ℕ) → High (digit d)
digit_high d = ⊎_elim (λ k. rw (le-ltb d 10 k) (omega arith)) (λ k. rw (lt-ltb d 10 k) (omega arith)) (le_or_lt 10 d)

-- no byte of data is below the digit 0
pub hex_high : (bs : List ℕ) → All High (hex bs)
unfolding hex
hex_high [] = tt
hex_high (b ∷ bs) = (digit_high (b / 16), (digit_high (b % 16), hex_high bs))

-- hex digits, some and even in number, are data
pub data_all : (v : List ℕ) (t : Bool) → (0 < length v) × (length v % 2 ≡ 0) → Test (All HexDigit v) t → DataTest v t
data_all v true h a = (unhex v, spelt v a h.1 h.0)
data_all v false h n = λ (bs, s). n (rw s.same (hex_digits bs s.bytes))

-- and nothing else is
pub data_none : (v : List ℕ) (t : Bool) → t ≡ false → ((0 < length v) × (length v % 2 ≡ 0) → ⊥) → DataTest v t
data_none v true e n = absurd (let z : ◌≡◌ {A = ℕ} 0 1 = cc in omega arith)
data_none v false e n = λ (bs, s). n (omega (arith, spells_length v bs s, s.some), omega (arith, spells_length v bs s))
