-- No byte is passed over: however far a journal was read on from its start, the lines that were read, joined, are the bytes up to
-- the offset reached, and at the end they are the journal. Assumes nothing.
use Prim.Native.Nat.{ℕ, ◌+◌}
use mathlib.Core.{Path.{◌≡◌, refl, sym, ◌∙◌, ap}, List.{List, [], ◌∷◌, ◌++◌, append_assoc}}
use native.Mathlib.Omega.{arith}
use lib.{ListN.{length, take, drop, length-append, length-take, length-drop, take-append-drop}, Seq.{take_at, take_all}}
use Rattle.spelling.specs.Bytes.{Without}
use Rattle.journal.specs.{Journal.{LineAt, offset_after}, Theorems.{Reached, start, on, joined, Lines, Passed, PassedTheorem}}
use Rattle.journal.proofs.Lines.{line_read}

lines_one_more : (ls : List (List ℕ)) (l : List ℕ) → Lines ls → Without 10 l → Lines (ls ++ (l ∷ []))
lines_one_more [] l a w = (w, tt)
lines_one_more (k ∷ ls) l a w = (a.0, lines_one_more ls l a.1 w)

joined_one_more : (ls : List (List ℕ)) (l : List ℕ) → joined (ls ++ (l ∷ [])) ≡ joined ls ++ (l ++ (10 ∷ []))
unfolding joined
joined_one_more [] l = refl
joined_one_more (k ∷ ls) l = ap (λ (x : List ℕ). k ++ (10 ∷ x)) (joined_one_more ls l) ∙ sym (append_assoc k (10 ∷ joined ls) (l ++ (10 ∷ [])))

-- up to the next line: one line more, with its newline
take_line : (j : List ℕ) (at : ℕ) (l : List ℕ) (next : ℕ) → LineAt j at l next → take next j ≡ take at j ++ (l ++ (10 ∷ []))
take_line j at l next h =
    let n : length (drop at j) ≡ length l + (1 + length (drop next j)) = ap length h.whole ∙ simp length-append (omega arith) in
    let m : length (take at j ++ (l ++ (10 ∷ []))) ≡ next = simp (length-append, length-take) (omega (arith, simp length-drop at n, h.after)) in
    let e : j ≡ (take at j ++ (l ++ (10 ∷ []))) ++ drop next j =
    sym (take-append-drop at j) ∙ ap (λ (x : List ℕ). take at j ++ x) (h.whole ∙ sym (append_assoc l (10 ∷ []) (drop next j))) ∙ sym (append_assoc (take at j) (l ++ (10 ∷ [])) (drop next j)) in
    ap (take next) e ∙ take_at (take at j ++ (l ++ (10 ∷ []))) (drop next j) next m

-- lines whose bytes are those before an offset
passed_lines : (j : List ℕ) (k at : ℕ) (ls : List (List ℕ)) → length ls ≡ k → Lines ls → take at j ≡ joined ls → Passed j k at
passed_lines j k at ls n c e = record { lines = ls; count = n; clean = c; bytes = e; whole = λ h. sym (take_all at j h) ∙ e }

passed_line : (j : List ℕ) (k at : ℕ) (l : List ℕ) (next : ℕ) → LineAt j at l next → Passed j k at → Passed j (k + 1) next
passed_line j k at l next h p =
    passed_lines j (k + 1) next (p.lines ++ (l ∷ [])) (simp length-append (omega (arith, p.count))) (lines_one_more p.lines l p.clean h.clean)
    (take_line j at l next h ∙ ap (λ (x : List ℕ). x ++ (l ++ (10 ∷ []))) p.bytes ∙ sym (joined_one_more p.lines l))

passed : {j : List ℕ} {k at form : ℕ} → Reached j k at form → Passed j k at
unfolding joined
passed {j} start = passed_lines j 0 0 [] refl tt refl
passed {j} (on {k = k} {at = at} {n = n} r x g) = let l = line_read x g in passed_line j k at l.0 (offset_after at n) l.1 (passed r)

pub passed_theorem : PassedTheorem
passed_theorem j k at form r = passed r
