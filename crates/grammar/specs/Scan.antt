-- How one line is read against one form, part by part: what the private functions promise. The public promises rest on `Line`
-- alone. Assumes nothing.
use Rattle.std.specs.Prelude.{ℕ, suc, ◌+◌, ◌*◌, ◌%◌, ◌-◌, ◌≤◌, ◌<◌, Option, Some, None, MatchOption}
use Rattle.std.specs.{Option.option_or, declared.ops.Range.Range}
use mathlib.Core.{Path.◌≡◌, Bool.cond, List.{List, [], ◌∷◌, ◌++◌}}
use lib.{Dec.eqb, ListN.{length, drop, get_or, set, replicate}}
use Rattle.spelling.specs.{Bytes.up_to, Text.text, Decimal.{decimal, greatest, IsNumber}, Hex.IsData}
use Rattle.grammar.specs.{Form.{Part, fixed, value, Value, number, pairs, Has}, Line.said, Table.{calls, Row, row_at, table, number_count, row_count}}
use Rattle.std.specs.Prelude.{Result, Ok, Err}
use Rattle.grammar.specs.declared.{Line.Line, Refusal.{Refusal, TheVariants.{NotNumber, NotData}}, Wrong.{Wrong, TheVariants.{Number, Data}}, Values.Values, Found.Found}
use Rattle.grammar.specs.declared.Key.{Key, TheVariants.{Core, Line as OfLine, By, Data as OfData, Cores, Lines, Width, Lease, Cap}}
use Rattle.protocol.specs.declared.Call.{Call}

-- ---- a value

-- the value that a text begins with: up to the next blank or the end
abbrev pub first_value : List ℕ → List ℕ
first_value t = up_to 32 t

-- and what is after it
abbrev pub after_value : List ℕ → List ℕ
after_value t = drop (length (first_value t)) t

-- how many values a form has
unfoldable pub values_in : List Part → ℕ
values_in [] = 0
values_in (fixed b ∷ p) = values_in p
values_in (value q ∷ p) = 1 + values_in p

-- nothing read yet of a line of n bytes: the data, if there are none, are the empty part at the line's end
abbrev pub nothing_read : ℕ → Values
nothing_read n = record { wrong = None; number = replicate number_count 0; start = n }

-- the i-th value is the number n
abbrev pub with_number : Values → ℕ → ℕ → Values
with_number v i n = record v { number = set v.number i n }

-- a value that is no number: 12, whatever the data are
abbrev pub without_number : Values → Values
without_number v = record v { wrong = Some Number }

-- where the data start
abbrev pub with_data : Values → ℕ → Values
with_data v at = record v { start = at }

-- a value that is no data: 13, unless a number was wrong
abbrev pub without_data : Values → Values
without_data v = record v { wrong = option_or v.wrong (Some Data) }

-- the i-th value s of a line, which starts at an offset of it, takes v to r, where an N is and where an H is
pub data ValueRead (v : Values) (i at : ℕ) (s : List ℕ) : Value → Values → Type 0 where
  a_number : (n : ℕ) → n ≤ greatest → s ≡ decimal n → ValueRead v i at s number (with_number v i n)
  no_number : (IsNumber s → ⊥) → ValueRead v i at s number (without_number v)
  some_data : IsData s → ValueRead v i at s pairs (with_data v at)
  no_data : (IsData s → ⊥) → ValueRead v i at s pairs (without_data v)

-- the rest t of a line of n bytes is read against the rest of a form, after i values, which takes the values v to r, or to none where it
-- has not that form
pub data Scans (n : ℕ) : List Part → List ℕ → ℕ → Values → Option Values → Type 0 where
  ended : {i : ℕ} {v : Values} → Scans n [] [] i v (Some v)
  longer : {b i : ℕ} {t : List ℕ} {v : Values} → Scans n [] (b ∷ t) i v None
  same : {p : List Part} {b i : ℕ} {t : List ℕ} {v : Values} {r : Option Values} → Scans n p t i v r → Scans n (fixed b ∷ p) (b ∷ t) i v r
  other : {p : List Part} {b i : ℕ} {t : List ℕ} {v : Values} → ((u : List ℕ) → t ≡ b ∷ u → ⊥) → Scans n (fixed b ∷ p) t i v None
  a_value :
      {p : List Part} {q : Value} {i : ℕ} {t : List ℕ} {v w : Values} {r : Option Values} → ValueRead v i (n - length t) (first_value t) q w
      → Scans n p (after_value t) (suc i) w r → Scans n (value q ∷ p) t i v r

-- reading the rest t of the line s against the parts p, where no value is read yet, gives r
abbrev pub Reads : List ℕ → List Part → List ℕ → Option Values → Type 0
Reads s p t r = Scans (length s) p t 0 (nothing_read (length s)) r

-- ---- a form by its kind and its keys

-- a text, and then the parts p
abbrev pub texted : List ℕ → List Part → List Part
texted [] p = p
texted (b ∷ bs) p = fixed b ∷ texted bs p

-- the text of a key
abbrev pub key_text : Key → List ℕ
key_text Core = text " core="
key_text OfLine = text " line="
key_text By = text " by="
key_text OfData = text " data="
key_text Cores = text " cores="
key_text Lines = text " lines="
key_text Width = text " width="
key_text Lease = text " lease="
key_text Cap = text " cap="

-- what its value is
abbrev pub key_value : Key → Value
key_value OfData = pairs
key_value _ = number

-- keys, each with its value
abbrev pub field_parts : List Key → List Part
field_parts [] = []
field_parts (k ∷ ks) = texted (key_text k) (value (key_value k) ∷ field_parts ks)

-- r is the offset after the text t, where it is in the line s at an offset
abbrev pub After : List ℕ → ℕ → List ℕ → Option ℕ → Type 0
After s at t r = MatchOption r ((u : List ℕ) → drop at s ≡ t ++ u → ⊥) (λ e. (drop at s ≡ t ++ drop e s) × (e ≡ at + length t))

-- ---- the rows

-- the form of a row of the table
abbrev pub form_of : ℕ → List Part
form_of k = (row_at table k).form

-- the byte of a part of fixed text
abbrev pub byte_of : Part → ℕ
byte_of (fixed b) = b
byte_of (value q) = 0

-- the tag of a line and of a form: by its seventh and its eighth byte
abbrev pub tag_of : ℕ → ℕ → ℕ
tag_of a b = (a * 15 + b) % 32

abbrev pub row_tag : Row → ℕ
row_tag r = tag_of (byte_of (get_or r.form 6 (fixed 0))) (byte_of (get_or r.form 7 (fixed 0)))

-- r is the only row with this tag
abbrev pub RowAt : ℕ → ℕ → Type 0
RowAt tag r = (k : ℕ) → k < row_count → row_tag (row_at table k) ≡ tag → k ≡ r

-- the line s does not have the form p, whatever the values
abbrev pub Fails : List ℕ → List Part → Type 0
Fails s p = (vs : List (List ℕ)) → Has s p vs → ⊥

-- which of some rows has the line s
abbrev pub FoundIn : List ℕ → Range ℕ → Option Found → Type 0
FoundIn s rows r =
    MatchOption r ((k : ℕ) → rows.start ≤ k → k < rows.end → Fails s (form_of k))
    (λ f. (rows.start ≤ f.row) × (f.row < rows.end) × Reads s (form_of f.row) s (Some f.values))

-- the refusal of what is wrong, and where nothing is, the answer a
abbrev pub unless_wrong : Option Wrong → Line → Result Line Refusal
unless_wrong None a = Ok a
unless_wrong (Some Number) a = Err NotNumber
unless_wrong (Some Data) a = Err NotData

-- what a row says of what was read, or the refusal
abbrev pub answer_of : Found → ℕ → Result Line Refusal
answer_of f end = unless_wrong f.values.wrong (said ((row_at table f.row).says (λ i. get_or f.values.number i 0)) f.values.start end)

-- the capacity that the first line of a form says, given its numbers of lines and of `cap=`: "`fabric=1` means cap = lines"
abbrev pub cap_of : ℕ → ℕ → ℕ → ℕ
cap_of form lines cap = cond (eqb form 1) lines cap

-- the call that a step row says of these numbers
abbrev pub Called : ℕ → List ℕ → Call → Type 0
Called k ns r = (row_at table k).says (λ i. get_or ns i 0) ≡ calls r
