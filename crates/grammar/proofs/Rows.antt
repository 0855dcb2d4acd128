-- Laws of the table of forms: each row has the shape that reading asks, and a tag of its own.
-- One test, computed at each row. Assumes nothing.
use Prim.Native.Nat.{ℕ, zero, suc, ◌+◌, ◌-◌, ◌≤◌, ◌<◌}
use mathlib.Core.{Path.{◌≡◌, refl, sym, ap₂, subst}, Bool.{Bool, true, false, cond}, List.{List, [], ◌∷◌}}
use native.Mathlib.{Omega.arith, Nat.{le_of_suc-le-suc, not-suc-le-zero, suc-add, add-suc, add-zero, zero-add}}
use lib.{Dec.{leb, eqb, lit<}, ListN.{length, get_or}}
use borrow.Author.Tests.{leb-true, eqb-true}
use Rattle.protocol.{specs.Pick.both, proofs.Tests.{never, both_true}}
use Rattle.grammar.specs.{Form.{Part, fixed, value, number, pairs, Has}, Table.{Row, row_at, table, row_count, number_count}}
use Rattle.grammar.specs.Scan.{form_of, byte_of, tag_of, row_tag, values_in, RowAt}
use Rattle.grammar.proofs.Fit.{Edged, Shaped, byte_only}

-- ---- the code's table of tags, as the rows of the definitions make it

-- the first row with a tag, counted from k; 29 where there is none
abbrev row_of : ℕ → ℕ → List Row → ℕ
row_of tag k [] = 29
row_of tag k (r ∷ rs) = cond (eqb (row_tag r) tag) k (row_of tag (suc k) rs)

-- the rows of n tags, from a tag on, as letters from a on
abbrev pub letters_from : ℕ → ℕ → List ℕ
letters_from tag zero = []
letters_from tag (suc n) = (97 + row_of tag 0 table) ∷ letters_from (suc tag) n

abbrev pub letters : List ℕ
letters = letters_from 0 32

pub letter_high : (tag n k : ℕ) → k < n → 97 ≤ get_or (letters_from tag n) k 0
letter_high tag zero k h = absurd (not-suc-le-zero h)
letter_high tag (suc n) zero h = omega arith
letter_high tag (suc n) (suc k) h = letter_high (suc tag) n k (le_of_suc-le-suc h)

-- ---- tests on a form

-- the first n parts are fixed text
abbrev pub fixed_up_to : ℕ → List Part → Bool
fixed_up_to zero p = true
fixed_up_to (suc n) [] = false
fixed_up_to (suc n) (fixed b ∷ p) = fixed_up_to n p
fixed_up_to (suc n) (value q ∷ p) = false

abbrev edged : List Part → Bool
edged [] = true
edged (fixed b ∷ p) = eqb b 32
edged (value q ∷ p) = false

unfoldable shaped : List Part → Bool
shaped [] = true
shaped (fixed b ∷ p) = shaped p
shaped (value number ∷ p) = both (edged p) (shaped p)
shaped (value pairs ∷ []) = true
shaped (value pairs ∷ (x ∷ p)) = false

edged_is : (p : List Part) → edged p ≡ true → Edged p
edged_is [] e = tt
edged_is (fixed b ∷ p) e = eqb-true b 32 e
edged_is (value q ∷ p) e = never (sym e)

shaped_is : (p : List Part) → shaped p ≡ true → Shaped p
unfolding shaped
shaped_is [] e = tt
shaped_is (fixed b ∷ p) e = shaped_is p e
shaped_is (value number ∷ p) e = let t = both_true (edged p) (shaped p) e in (edged_is p t.0, shaped_is p t.1)
shaped_is (value pairs ∷ []) e = refl
shaped_is (value pairs ∷ (x ∷ p)) e = never (sym e)

-- a line that has a form has its fixed text
pub byte_at : (n i : ℕ) (s : List ℕ) (p : List Part) (vs : List (List ℕ)) → i < n → fixed_up_to n p ≡ true → Has s p vs → (i < length s) × (get_or s i 0 ≡ byte_of (get_or p i (fixed 0)))
byte_at zero i s p vs l e h = absurd (not-suc-le-zero l)
byte_at (suc n) i s [] vs l e h = never (sym e)
byte_at (suc n) i s (value q ∷ p) vs l e h = never (sym e)
byte_at (suc n) zero s (fixed b ∷ p) vs l e h = let d = byte_only s b p vs h in rw d.1 (omega arith, refl)
byte_at (suc n) (suc i) s (fixed b ∷ p) vs l e h =
    let d = byte_only s b p vs h in
    let r = byte_at n i d.0 p vs (le_of_suc-le-suc l) e d.2 in
    rw d.1 (omega (arith, r.0), r.1)

-- ---- the test of a row, and what it shows

fits : ℕ → Row → Bool
fits k r =
    both (leb (values_in r.form) number_count)
    (both (fixed_up_to 8 r.form) (both (shaped r.form) (eqb (get_or letters (row_tag r) 0) (97 + k))))

pub record Entry (k : ℕ) (r : Row) : Type 0 where
  pub room : values_in r.form ≤ number_count
  pub head : fixed_up_to 8 r.form ≡ true
  pub shape : Shaped r.form
  pub found : get_or letters (row_tag r) 0 ≡ 97 + k

entry : (k : ℕ) (r : Row) → fits k r ≡ true → Entry k r
unfolding fits
entry k r t =
    let a = both_true _ _ t in
    let b = both_true _ _ a.1 in
    let c = both_true _ _ b.1 in
    record { room = leb-true _ _ a.0; head = b.0; shape = shaped_is r.form c.0; found = eqb-true _ _ c.1 }

-- the test f passes at each row and its index, counted from i
abbrev pub every : (ℕ → Row → Bool) → ℕ → List Row → Bool
every f i [] = true
every f i (r ∷ rs) = both (f i r) (every f (suc i) rs)

pub every_at : (f : ℕ → Row → Bool) (rows : List Row) (i : ℕ) → every f i rows ≡ true → (k : ℕ) → k < length rows → f (k + i) (row_at rows k) ≡ true
every_at f [] i a k h = absurd (not-suc-le-zero h)
every_at f (r ∷ rows) i a zero h = rw (zero-add i) (both_true (f i r) _ a).0
every_at f (r ∷ rows) i a (suc k) h = rw (suc-add k i, ← add-suc k i) (every_at f rows (suc i) (both_true (f i r) _ a).1 k (le_of_suc-le-suc h))

-- the table has as many rows as the code says, and each passes
counted : length table ≡ row_count
counted = refl

tested : every fits 0 table ≡ true
unfolding fits values_in shaped
tested = refl

pub entry_at : (k : ℕ) → k < row_count → Entry k (row_at table k)
entry_at k h = entry k (row_at table k) (subst (λ (m : ℕ). fits m (row_at table k) ≡ true) (add-zero k) (every_at fits table 0 tested k (rw counted h)))

-- ---- the row of a line, by its tag

abbrev pub line_tag : List ℕ → ℕ
line_tag s = tag_of (get_or s 6 0) (get_or s 7 0)

-- a line that has a row's form has its tag
pub same_tag : (k : ℕ) (s : List ℕ) (vs : List (List ℕ)) → k < row_count → Has s (form_of k) vs → (7 < length s) × (row_tag (row_at table k) ≡ line_tag s)
same_tag k s vs h f =
    let e = (entry_at k h).head in
    let a = byte_at 8 6 s (form_of k) vs (lit< tt) e f in
    let b = byte_at 8 7 s (form_of k) vs (lit< tt) e f in
    (b.0, sym (ap₂ tag_of a.1 b.1))

-- TWO ROWS NEVER HAVE THE SAME LINE: the only row with a tag is the one whose letter the code's table has there
pub row_by_tag : (tag : ℕ) → RowAt tag (get_or letters tag 0 - 97)
row_by_tag tag k h e = omega (arith, rw e at (entry_at k h).found)

-- ---- a match on a number

-- a number that is none of the first k
unfoldable pub Others : ℕ → ℕ → Type 0
Others n zero = Unit
Others n (suc k) = Others n k × (n ≡ k → ⊥)

-- it is past them
pub past : (n k : ℕ) → Others n k → k ≤ n
unfolding Others
past n zero o = omega arith
past n (suc k) o = let p = past n k o.0 in let x = o.1 in omega arith
