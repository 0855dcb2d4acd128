-- Each call for a whole journal has exactly one answer, and leaves one buffer. Assumes nothing.
use Prim.Native.Nat.{ℕ, ◌+◌}
use mathlib.Core.{Path.{refl, ◌∙◌, ap, ap₂, subst}, Bool.cond}
use lib.ListN.{length}
use Rattle.protocol.specs.{Buffers.Bytes, declared.Counts.Counts}
use Rattle.spelling.specs.{Over.{has_room, over, PutAt}}
use Rattle.listing.specs.Record.{tally_text}
use Rattle.playing.proofs.OneListing.{one_tally_theorem}
use Rattle.whole.{specs.{Whole.{number_of as number_at_end}, Theorems.Listed, declared.Checked.Checked}, proofs.{Checking.one_check_theorem, OneListed.one_listed_theorem}}
use Rattle.converting.{specs.Theorems.Left as Converting, proofs.OneConversion.one_conversion_theorem}
use Rattle.host.specs.Answers.{size_of, number_of, length_or, LeftWithLine, OneCheckForCTheorem, Left, OneListingForCTheorem, OneTallyForCTheorem, LeftWithLength, OneConversionForCTheorem}
use Rattle.std.specs.Prelude.{Some, None}

-- what looking a journal over leaves, by its answer
abbrev checked : Checked → LeftWithLine
checked x = record { number = number_at_end x.refusal; line = x.line }

pub one_check_for_c_theorem : OneCheckForCTheorem
one_check_for_c_theorem j =
    let o = one_check_theorem j in
    record {
      answer = checked o.answer;
      holds = record { refusal = o.answer.refusal; checks = o.holds; number = refl };
      only =
          λ b y.
          ap (λ (n : ℕ). record { number = n; line = b.line }) y.number
          ∙ ap checked (o.only (record { refusal = y.refusal; line = b.line }) y.checks);
    }

-- a number and a buffer
abbrev left : ℕ → Bytes → Left
left n b = record { number = n; buffer = b }

pub one_listing_for_c_theorem : OneListingForCTheorem
one_listing_for_c_theorem j old =
    let o = one_listed_theorem j old in
    record {
      answer = left (size_of o.answer.answer) o.answer.buffer;
      holds = record { put = o.answer.answer; lists = o.holds; size = refl };
      only =
          λ b y.
          let e = o.only (record { answer = y.put; buffer = b.buffer }) y.lists in
          ap₂ left (y.size ∙ ap (λ (x : Listed). size_of x.answer) e) (ap (λ (x : Listed). x.buffer) e);
    }

pub one_tally_for_c_theorem : OneTallyForCTheorem
one_tally_for_c_theorem j old =
    let o = one_tally_theorem j in
    let t = tally_text o.counts in
    let room = has_room (length old) 0 (length t) in
    record {
      answer = left (size_of (cond room (Some (0 + length t)) None)) (cond room (over old 0 t) old);
      holds = record { put = _; counts = o.counts; tally = o.holds; text = record { answer = refl; bytes = refl }; number = refl };
      only =
          λ b y.
          let p = subst (λ (k : Counts). PutAt old 0 (tally_text k) b.buffer y.put) (o.only y.counts y.tally) y.text in
          ap₂ left (y.number ∙ ap size_of p.answer) p.bytes;
    }

-- what a conversion leaves, by its answer and its buffer
abbrev converted : ℕ → Converting → LeftWithLength
converted k x = record { number = number_of x.answer; buffer = x.buffer; length = length_or x.answer k }

pub one_conversion_for_c_theorem : OneConversionForCTheorem
one_conversion_for_c_theorem to j old k =
    let o = one_conversion_theorem to j old in
    record {
      answer = converted k o.answer;
      holds = record { converted = o.answer.answer; converts = o.holds; number = refl; length = refl };
      only =
          λ b y.
          ap₂ (λ (n l : ℕ). record { number = n; buffer = b.buffer; length = l }) y.number y.length
          ∙ ap (converted k) (o.only (record { answer = y.converted; buffer = b.buffer }) y.converts);
    }
