-- A result of the greatest length, and one that is a byte longer: those of journals with one line many times, whose step is refused and so changes
-- nothing.
use Prim.Native.Nat.{ℕ, zero, suc, ◌+◌, ◌*◌, ◌≤◌, ◌<◌}
use mathlib.Core.{Path.{◌≡◌, refl, ◌∙◌, ap, subst}, Bool.true, List.{List, [], ◌∷◌, ◌++◌}}
use native.Mathlib.Omega.{arith}
use lib.{Dec.{lit≤, lit<}, ListN.{length, drop, length-append}}
use borrow.Author.Tests.{lt-ltb, le-ltb}
use Rattle.protocol.specs.{Limits.opening_fits, Buffers.Bytes, Machine.{Machine, fresh_machine}, Step.step, Run.Entry}
use Rattle.protocol.specs.declared.{Opening.Opening as Sizes, Call.TheVariants.Serve}
use Rattle.spelling.specs.{Decimal.{decimal, decimal_up_to}, Hex.{hex, unhex}, Text.text, Over.over}
use Rattle.grammar.specs.Form.{lay, Given, spellings}
use Rattle.convert.specs.{Spelling.{opening_line, step_lines, journal_of}, Forms.converted}
use Rattle.convert.specs.Conversion.{Reads, unlike, result_of, refusal_of, answer_of, buffer_of, Converts, reads}
use Rattle.std.specs.Prelude.{Ok, Err}
use Rattle.grammar.specs.declared.Refusal.TheVariants.{TooMuch}
use Rattle.convert.specs.declared.To.{To, TheVariants.{First, Second}}
use Rattle.converting.proofs.Back.{AllFit, reads_back}
use Rattle.reference_points.specs.{Numbers.opening, Conversions.{least_first, least_second, long_first, serves}}
use Rattle.reference_points.proofs.{Rows.calling, Reading.call}

-- ---- the steps

abbrev serve : Entry
serve = call (Serve 0) []

-- n of them
unfoldable times : ℕ → List Entry
times zero = []
times (suc n) = serve ∷ times n

-- their lines, of 16 bytes each
lines : (n : ℕ) → step_lines (times n) ≡ serves n
unfolding step_lines times serves lay spellings decimal decimal_up_to unhex
lines zero = refl
lines (suc n) = ap (λ (l : Bytes). text "op=serve core=0\n" ++ l) (lines n)

serves_length : (n : ℕ) → length (serves n) ≡ 16 * n
unfolding serves
serves_length zero = refl
serves_length (suc n) = omega (arith, serves_length n)

length_of : (t : Bytes) (n : ℕ) → length (t ++ serves n) ≡ length t + 16 * n
length_of t n = length-append t (serves n) ∙ ap (λ (k : ℕ). length t + k) (serves_length n)

-- they are the same in the other form, where they leave the machine as it is
same : (m : Machine) → (step m (Serve 0) []).machine ≡ m → (n : ℕ) → converted Second (times n) m ≡ times n
unfolding converted times
same m e zero = refl
same m e (suc n) = rw e (ap (λ (l : List Entry). serve ∷ l) (same m e n))

-- a journal of `fabric=1` can have them
fit : (n : ℕ) → AllFit 1 (times n)
unfolding times lay spellings decimal decimal_up_to unhex hex Given
fit zero = tt
fit (suc n) = (
  record {
    spelling = record { line = refl; row = 4; listed = lit< tt; is = refl; says = refl; given = (lit≤ tt, (refl, refl)); digits = refl; plain = λ e. refl };
    short = lit≤ tt;
  },
  fit n,
)

-- ---- the journals

-- one core, one line, width 1, and a lease
abbrev sizes : ℕ → Sizes
sizes lease = opening 1 1 1 lease 1

-- the first line of a form, with its newline
abbrev FirstLine : To → ℕ → Bytes → Type 0
FirstLine to lease t = (l : Bytes) → opening_line to (sizes lease) ++ (10 ∷ l) ≡ t ++ l

-- a journal with that line and these lines
journal_is : (to : To) (lease n : ℕ) (t : Bytes) → FirstLine to lease t → journal_of to (sizes lease) (times n) ≡ t ++ serves n
journal_is to lease n t f = f (step_lines (times n)) ∙ ap (λ (l : Bytes). t ++ l) (lines n)

-- it reads as the steps
read : (lease n : ℕ) (t : Bytes) → FirstLine First lease t → lease ≤ 1000 → length t + 16 * n ≤ 65536 → Reads 1 (t ++ serves n) (sizes lease) (times n)
read lease n t f h size =
    let e = journal_is First lease n t f in
    subst (λ (j : Bytes). Reads 1 j (sizes lease) (times n)) e
    (reads_back First (sizes lease) (times n)
    (record { cores = lit≤ tt; lines = lit≤ tt; width = lit≤ tt; lease = omega (arith, h); cap = lit≤ tt; plain = λ e. refl })
    (fit n) (rw (e, length_of t n) size))

-- and has this result
made :
    (lease n : ℕ) (t : Bytes) → FirstLine Second lease t → (step (fresh_machine (sizes lease)) (Serve 0) []).machine ≡ fresh_machine (sizes lease)
    → result_of Second (sizes lease) (times n) ≡ t ++ serves n
made lease n t f still = ap (journal_of Second (sizes lease)) (same (fresh_machine (sizes lease)) still n) ∙ journal_is Second lease n t f

-- ---- the answers, by the length of the result

module _
    (o : Sizes) (n : ℕ) (journal result old : Bytes) (i : opening_fits o ≡ true) (r : Reads 1 journal o (times n)) (e : result_of Second o (times n) ≡ result)
  where
    conversion : Converts Second journal old (answer_of Second o (times n) (length old)) (buffer_of Second o (times n) old)
    conversion = reads r

    fits : length result ≤ 65536 → length result ≤ length old → Converts Second journal old (Ok (length result)) (over old 0 result)
    unfolding refusal_of unlike
    fits h room = rw (i, e, le-ltb 65536 (length result) h, le-ltb (length old) (length result) room) at conversion

    too_long : 65536 < length result → Converts Second journal old (Err TooMuch) old
    unfolding refusal_of unlike
    too_long h = rw (i, e, lt-ltb 65536 (length result) h) at conversion

-- ---- 65,536 bytes, and one more

pub longest :
    (old : Bytes) → 65536 ≤ length old → Converts Second (least_first ++ serves 4093) old (Ok 65536) ((least_second ++ serves 4093) ++ drop 65536 old)
unfolding calling lay spellings decimal decimal_up_to
longest old h =
    let e : length (least_second ++ serves 4093) ≡ 65536 = length_of least_second 4093 in
    rw e at
    (fits (sizes 10) 4093 (least_first ++ serves 4093) (least_second ++ serves 4093) old refl
    (read 10 4093 least_first (λ l. refl) (lit≤ tt) (lit≤ tt)) (made 10 4093 least_second (λ l. refl) refl) (omega (arith, e)) (omega (arith, e, h)))

abbrev long_second : Bytes
long_second = text "fabric=2 cores=1 lines=1 width=1 lease=100 cap=1\n"

pub longer : (old : Bytes) → Converts Second (long_first ++ serves 4093) old (Err TooMuch) old
unfolding calling lay spellings decimal decimal_up_to
longer old =
    too_long (sizes 100) 4093 (long_first ++ serves 4093) (long_second ++ serves 4093) old refl
    (read 100 4093 long_first (λ l. refl) (lit≤ tt) (lit≤ tt)) (made 100 4093 long_second (λ l. refl) refl)
    (omega (arith, length_of long_second 4093))
