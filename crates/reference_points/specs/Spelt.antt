-- The store whose bytes are given in digits (02, Three), row by row: what it does to the core, its copy and the bytes; and its refusals, of which
-- 13 is the first.
use Rattle.std.specs.Prelude.{ℕ, None as NothingHeld, Some as Version}
use mathlib.Core.{Path.◌≡◌, List.{List, [], ◌∷◌, ◌++◌, map}}
use Rattle.protocol.specs.{Stamps.stamp, Buffers.Bytes, Machine.Machine, Step.{Reply, done, commit, store, Outcome, step}}
use Rattle.protocol.specs.declared.Pieces.{Pieces}
use Rattle.protocol.specs.declared.{Call.TheVariants.Store, Given.TheVariants.Digits as AsDigits, Name.TheVariants.Ask as ask}
use Rattle.protocol.specs.declared.{Copy.TheVariants.None as NoCopy, Slot.TheVariants.Empty, Recall.TheVariants.None as NoRecall}
use Rattle.protocol.specs.declared.Want.TheVariants.{Store as WantStore}
use Rattle.spelling.specs.{Text.text, Hex.unhex}
use Rattle.reference_points.specs.Rows.{core, asked, asked_elsewhere, shared_copy, clean_copy, dirty_copy, pieces, shared_line, owned_line, busy, Places}
use Rattle.reference_points.specs.Rows.{places, manager_bytes, writeback_bytes, answer_bytes, unmoved, machine_of, Agree}
use Rattle.reference_points.specs.Numbers.{Refusal, refusal, called, turned_away, usual, idle, waiting, full, shortened, misowned}

-- ---- what it does

-- core 1 stores to line 2: the pieces before it, the digits; its answer, the pieces and the bytes after it
pub data Spelt : Type 0 where
  spelt : (before : Pieces) (digits : Bytes) (reply : Reply) (after : Pieces) (bytes : Places) → Spelt

abbrev pub stored : Spelt → Outcome
stored (spelt p ds r q b) = step (machine_of 10 p unmoved) (Store AsDigits 1 2) ds

abbrev pub told_of : Spelt → Outcome
told_of (spelt p ds r q b) = record { reply = r; machine = machine_of 10 q b }

-- digits and the bytes that they spell: "lower-case hex pairs"
abbrev pub lettered : Bytes
lettered = text "c8c9cacbcc"

abbrev pub lettered_bytes : Bytes
lettered_bytes = 200 ∷ 201 ∷ 202 ∷ 203 ∷ 204 ∷ []

-- every digit, each as the upper and as the lower half of a byte
abbrev pub mixed : Bytes
mixed = text "0123456789"

abbrev pub mixed_bytes : Bytes
mixed_bytes = 1 ∷ 35 ∷ 69 ∷ 103 ∷ 137 ∷ []

abbrev pub turned : Bytes
turned = text "1032547698"

abbrev pub turned_bytes : Bytes
turned_bytes = 16 ∷ 50 ∷ 84 ∷ 118 ∷ 152 ∷ []

abbrev pub letters : Bytes
letters = text "abcdef00ff"

abbrev pub letter_bytes : Bytes
letter_bytes = 171 ∷ 205 ∷ 239 ∷ 0 ∷ 255 ∷ []

abbrev pub turned_letters : Bytes
turned_letters = text "badcfe9a5f"

abbrev pub turned_letter_bytes : Bytes
turned_letter_bytes = 186 ∷ 220 ∷ 254 ∷ 154 ∷ 95 ∷ []

-- a store that commits at 13: the digits, and the bytes that the commit carries and the copy then has
abbrev pub storing : Bytes → Bytes → Spelt
storing ds bs =
    spelt (pieces (core 7 9 Empty) (dirty_copy 11 13) (owned_line 1 NoRecall)) ds (commit 1 (stamp 13) (store 2 bs))
    (pieces (core 7 13 Empty) (dirty_copy 13 13) (owned_line 1 NoRecall)) (places bs manager_bytes writeback_bytes answer_bytes)

abbrev pub spelt_rows : List Spelt
spelt_rows =
    -- "it gives what store gives for the bytes spelt, both buffers included"
    storing lettered lettered_bytes
    ∷ storing mixed mixed_bytes
    ∷ storing turned turned_bytes
    ∷ storing letters letter_bytes
    ∷ storing turned_letters turned_letter_bytes
    ∷ spelt (pieces (core 12 9 asked_elsewhere) (clean_copy 6 8) (busy (owned_line 1 NoRecall))) lettered (commit 1 (stamp 12) (store 2 lettered_bytes))
    (pieces (core 12 12 asked_elsewhere) (dirty_copy 12 12) (busy (owned_line 1 NoRecall))) (places lettered_bytes manager_bytes writeback_bytes answer_bytes)
    -- "Else: ask", and no byte is written
    ∷ spelt (pieces (core 12 40 Empty) NoCopy (shared_line 4 9)) lettered (done ask)
    (pieces (core 12 40 (asked WantStore 12 NothingHeld)) NoCopy (shared_line 4 9)) unmoved
    ∷ spelt (pieces (core 12 40 Empty) (shared_copy 4 20) (busy (shared_line 4 20))) mixed (done ask)
    (pieces (core 12 40 (asked WantStore 12 (Version (stamp 4)))) (shared_copy 4 20) (busy (shared_line 4 20))) unmoved
    ∷ []

-- ---- its refusals

-- a store in digits that is refused
abbrev pub digits_of : ℕ → Machine → ℕ → ℕ → Bytes → Refusal
digits_of n m c l ds = refusal n m (Store AsDigits c l) ds

-- an owned copy, to which a store is made
abbrev pub owner : Pieces
owner = pieces (core 7 9 Empty) (dirty_copy 11 13) (owned_line 1 NoRecall)

-- "data empty, odd in count, or not 0-9 a-f": one digit too few and one too many; the bytes beside 0 to 9 and a to f, capital letters, and other
-- bytes, first, in between and last
abbrev pub wrong_digits : List Bytes
wrong_digits =
    []
    ∷ text "c"
    ∷ text "c8c9cacbc"
    ∷ text "c8c9cacbcc0"
    ∷ text "/8c9cacbcc"
    ∷ text ":8c9cacbcc"
    ∷ text "`8c9cacbcc"
    ∷ text "g8c9cacbcc"
    ∷ text "C8c9cacbcc"
    ∷ text "c8c9caCbcc"
    ∷ text "c8c9c@cbcc"
    ∷ text "c8c9c cbcc"
    ∷ text "c8c9cacbcG"
    ∷ text "c8c9cacbcg"
    ∷ (0 ∷ text "8c9cacbcc")
    ∷ (text "c8c9cacbc" ++ (255 ∷ []))
    ∷ []

-- right digits, of too few bytes and of too many: "5 store bytes not width in count"
abbrev pub wrong_counts : List Bytes
wrong_counts = text "c8" ∷ text "c8c9cacb" ∷ text "c8c9cacbcccd" ∷ text "c8c9cacbccc8c9cacbcc" ∷ []

-- digits of whatever kind on a machine
abbrev pub each_of : ℕ → Machine → ℕ → ℕ → List Bytes → List Refusal
each_of n m c l dss = map (digits_of n m c l) dss

abbrev pub digit_refusals : List Refusal
digit_refusals =
    -- 13, on a machine and for a core and a line that nothing else refuses
    each_of 13 (usual owner) 1 2 wrong_digits
    -- 13 before 1 and before 2, with both at once too
    ++ each_of 13 (misowned (usual owner)) 1 2 wrong_digits
    ++ each_of 13 (shortened (usual owner)) 1 2 wrong_digits
    ++ each_of 13 (misowned (shortened (usual owner))) 1 2 wrong_digits
    -- 13 before 3, 4, 20 and 27; wrong in count too, it is 13 before 5
    ++ each_of 13 (usual owner) 3 2 wrong_digits
    ++ each_of 13 (usual owner) 1 4 wrong_digits
    ++ each_of 13 (usual waiting) 1 2 wrong_digits
    ++ each_of 13 (usual full) 1 2 wrong_digits
    -- right digits: the numbers of a store, in their order
    ++ each_of 5 (usual owner) 1 2 wrong_counts
    ++ each_of 5 (usual waiting) 1 2 wrong_counts
    ++ each_of 4 (usual owner) 1 4 wrong_counts
    ++ each_of 3 (usual owner) 3 4 wrong_counts
    ++ each_of 2 (shortened (usual owner)) 3 4 wrong_counts
    ++ each_of 1 (misowned (shortened (usual owner))) 3 4 wrong_counts
    ++ (digits_of 1 (misowned (usual owner)) 1 2 lettered
    ∷ digits_of 2 (shortened (usual owner)) 1 2 lettered
    ∷ digits_of 3 (usual idle) 3 2 lettered
    ∷ digits_of 4 (usual idle) 1 4 lettered
    ∷ digits_of 20 (usual waiting) 1 2 lettered
    ∷ digits_of 27 (usual full) 1 2 lettered
    ∷ [])

pub record SpeltTheorem : Type 0 where
  -- two digits are a byte, and one that is left over is none
  pub spelled : unhex (text "1fa0c") ≡ 31 ∷ 160 ∷ []
  pub rows : Agree stored told_of spelt_rows
  pub numbers : Agree called turned_away digit_refusals
