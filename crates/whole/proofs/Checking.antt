-- A journal looked over line by line: how many lines were read, and what ends it. Each journal has one answer.
use Prim.Native.Nat.{ℕ, ◌+◌, ◌≤◌}
use mathlib.Core.{Path.{◌≡◌, refl, sym, ap, ap₂, subst₂}, Bool.{true, false}, List.{List, [], ◌∷◌}}
use native.Mathlib.Omega.{arith}
use lib.ListN.{length, length-append}
use Rattle.protocol.{specs.{Limits.opening_fits, Buffers.Bytes, Run.Entry, declared.{Opening.Opening as Sizes, Call.Call}}, proofs.Tests.never}
use Rattle.spelling.specs.One.{One}
use Rattle.std.specs.Prelude.{Option, Some, None, Ok, Err}
use Rattle.grammar.specs.declared.Refusal.{Refusal, TheVariants.{Unfit}}
use Rattle.journal.specs.Journal.{Next, NextOf, too_much, empty, ended as at_last, unended, a_line as whole_line, goes_on}
use Rattle.journal.{specs.declared.Item.TheVariants.{Opening, Step}, proofs.Lines.{line_read, line_inside}}
use Rattle.driver.specs.Listing.{Ending, ended, stopped, entry_at, Between, no_line, a_line, at_end, at_refusal, refused_first}
use Rattle.driver.proofs.{Running.steps_append, Resuming.steps_long, Starting.{open_fits, outside_limits}, Reading.known}
use Rattle.playing.proofs.OneListing.{Opened, one, none, either, opens_same, not_both, refusal_same}
use Rattle.whole.specs.{Whole.{end_refusal, end_line, Checks, opens, fails, ChecksFrom}, Theorems.OneCheckTheorem, declared.Checked.Checked}

-- ---- line by line

-- a journal in which a line was read has not too many bytes
read_short : {j : Bytes} {at form : ℕ} {n : Next} → NextOf j at form n → goes_on n ≡ true → length j ≤ 65536
read_short (too_much l) g = never (sym g)
read_short (empty l h e) g = never (sym g)
read_short (at_last l h e) g = never (sym g)
read_short (unended l h w) g = never (sym g)
read_short (whole_line l next s h o) g = s

-- the second line does not start at the journal's start
pub first_long : {j : Bytes} {form : ℕ} {o : Sizes} {next : ℕ} → NextOf j 0 0 (Ok (Some (Opening form o next))) → 1 ≤ next
first_long x = omega (arith, (line_inside (line_read x refl).1).0)

-- so many lines were read up to an offset, the first line with them, which ends at `from`
pub record Passed (j : Bytes) (form from at line : ℕ) : Type 0 where
  pub steps : List Entry
  pub between : Between j form from steps at
  pub count : line ≡ 1 + length steps
  pub few : line ≤ 65536

pub passed_none : (j : Bytes) (form from : ℕ) → Passed j form from from 1
passed_none j form from = record { steps = []; between = no_line; count = refl; few = omega arith }

module _ {j : Bytes} {form from at line : ℕ} (s : Passed j form from at line) where
  -- a line more
  pub passed_more : {call : Call} {start end next : ℕ} → 1 ≤ from → NextOf j at form (Ok (Some (Step call start end next))) → Passed j form from next (line + 1)
  passed_more {call} {start} {end} h x =
      let k = (known x).1 in
      record {
        steps = _;
        between = steps_append s.between (a_line x no_line);
        count = omega (arith, s.count, length-append s.steps (entry_at j call start end ∷ []));
        few = omega (arith, h, s.count, steps_long s.between, k.forward, k.inside, read_short x refl);
      }

  -- the end
  pub passed_end : NextOf j at form (Ok None) → ChecksFrom j form from None line
  passed_end x = record { steps = s.steps; ending = ended; reads = record { to = at; steps = s.between; ends = at_end x }; refusal = refl; line = s.count }

  -- a line that is refused
  pub passed_refused : {r : Refusal} → NextOf j at form (Err r) → ChecksFrom j form from (Some r) (line + 1)
  passed_refused {r} x =
      record {
        steps = s.steps;
        ending = stopped r;
        reads = record { to = at; steps = s.between; ends = at_refusal x };
        refusal = refl;
        line = omega (arith, s.count);
      }

-- a first line that opens no engine: its sizes, lease or capacity lie outside the limits, or it is refused
pub checks_outside : {j : Bytes} {form : ℕ} {o : Sizes} {next : ℕ} → NextOf j 0 0 (Ok (Some (Opening form o next))) → opening_fits o ≡ false → Checks j (Some Unfit) 1
checks_outside x f = fails (outside_limits x f)

pub checks_refused : {j : Bytes} {r : Refusal} → NextOf j 0 0 (Err r) → Checks j (Some r) 1
checks_refused x = fails (refused_first x)

-- from the first line on
pub checks_opened :
    {j : Bytes} {form : ℕ} {o : Sizes} {next l : ℕ} {r : Option Refusal} → NextOf j 0 0 (Ok (Some (Opening form o next))) → opening_fits o ≡ true → ChecksFrom j form next r l
    → Checks j r l
checks_opened {j} {form} {o} {next} x f c =
    subst₂ (λ (a : Option Refusal) (b : ℕ). Checks j a b) (sym c.refusal) (sym c.line)
    (opens (record { form = form; next = next; first = x; accepted = open_fits o f; reads = c.reads }))

-- ---- one answer

abbrev answer : Option Refusal → ℕ → Checked
answer r l = record { refusal = r; line = l }

checks_same : {j : Bytes} {n m : Option Refusal} {l k : ℕ} → Checks j n l → Checks j m k → answer n l ≡ answer m k
checks_same (opens x) (opens y) = let s = opens_same x y in ap₂ (λ (gs : List Entry) (e : Ending). answer (end_refusal e) (end_line e (1 + length gs))) s.1 s.2
checks_same (opens x) (fails n) = absurd (not_both x n)
checks_same (fails n) (opens x) = absurd (not_both x n)
checks_same (fails n) (fails m) = ap (λ (r : Refusal). answer (Some r) 1) (refusal_same n m)

pub one_check_theorem : OneCheckTheorem
one_check_theorem j = go (either j)
  where
    go : Opened j → One (λ (x : Checked). Checks j x.refusal x.line)
    go (one x) = record { answer = answer _ _; holds = opens x; only = λ c y. checks_same y (opens x) }
    go (none n) = record { answer = answer _ _; holds = fails n; only = λ c y. checks_same y (fails n) }
