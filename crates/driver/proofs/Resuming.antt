-- The checkpoints of a run: what each one says, and that the steps of a run lead from one to another.
use Prim.Native.Nat.{ℕ, ◌+◌, ◌≤◌}
use mathlib.Core.{Path.{◌≡◌, sym, ◌∙◌}, Bool.true, List.List}
use native.Mathlib.Omega.{arith}
use lib.{Dec.{eqb, leb}, ListN.length}
use borrow.Author.Tests.{not-true, leb-true, eqb-false, ne_eqb, le-leb}
use Rattle.protocol.{specs.{Pick.fails, Buffers.Bytes, Machine.machine, Run.{Entry, Record}, Counts.tally}, proofs.Tests.{both_true, not_fails}}
use Rattle.driver.specs.{Listing.{Between, no_line, a_line}, Play.{run_from, few, resumable, Leads}, declared.Checkpoint.Checkpoint}
use Rattle.driver.proofs.{Reading.known, Counting.{few_sum, few_tally}, Running.run_length}

-- what a checkpoint of a journal of n bytes says
pub record Resumes (n : ℕ) (s : Checkpoint) : Type 0 where
  pub named : s.form ≡ 0 → ⊥
  pub inside : s.at ≤ n
  pub few : few s.counts s.at ≡ true

pub resumes : (n : ℕ) (s : Checkpoint) → resumable n s ≡ true → Resumes n s
resumes n s e =
    let t = eqb s.form 0 in
    let a = both_true (fails t) _ e in
    let b = both_true (leb s.at n) _ a.1 in
    record { named = eqb-false _ 0 (not-true t (not_fails t ∙ a.0)); inside = leb-true _ _ b.0; few = b.1 }

pub resumes_again : (n : ℕ) (s : Checkpoint) → Resumes n s → resumable n s ≡ true
resumes_again n s r = rw (ne_eqb s.form 0 r.named, le-leb _ _ r.inside, r.few)

-- a step takes a byte of the journal or more
pub steps_long : {j : Bytes} {form at to : ℕ} {gs : List Entry} → Between j form at gs to → at + length gs ≤ to
steps_long no_line = omega arith
steps_long (a_line x r) = omega (arith, (known x).1.forward, steps_long r)

-- and stays inside it
steps_inside : {j : Bytes} {form at to : ℕ} {gs : List Entry} → Between j form at gs to → at ≤ length j → to ≤ length j
steps_inside no_line h = h
steps_inside (a_line x r) h = steps_inside r (known x).1.inside

-- the steps of a run lead to another checkpoint of it
pub leads_on :
    {j : Bytes} {from : Checkpoint} {p q : Bytes} {gs : List Entry} {there : Checkpoint} {p' q' : Bytes} → resumable (length j) from ≡ true
    → Leads j from p q gs there p' q' → Resumes (length j) there
leads_on {j} {from} {p} {q} {gs} {there} s l =
    let r = resumes (length j) from s in
    let rs : List Record = (run_from from p q gs).records in
    let n = run_length gs (from.counts.steps + 1) (machine from.state p q) in
    record {
      named = λ z. r.named (sym l.form ∙ z);
      inside = steps_inside l.steps r.inside;
      few = rw l.counts (few_sum from.counts (tally rs) from.at (length rs) there.at r.few (few_tally rs) (omega (arith, steps_long l.steps)));
    }
