-- The steps of a run one after the other: what one step more adds to the records, the machine and the counts.
use Prim.Native.Nat.{ℕ, suc, ◌+◌, ◌-◌}
use mathlib.Core.{Path.{◌≡◌, refl, sym, ◌∙◌, ap}, List.{List, [], ◌∷◌, ◌++◌, append_assoc, append-nil}}
use native.Mathlib.Omega.{arith}
use lib.ListN.{length}
use Rattle.protocol.specs.{Pick.how_many, Buffers.{Bytes, part}, Machine.{Machine, machine}, Step.{Reply, step}, Run.{Entry, Record, place, run}}
use Rattle.protocol.specs.{Counts.{counts_of, sum, tally}, declared.{Call.Call, Counts.Counts}}
use Rattle.std.specs.Prelude.{Some, Ok}
use Rattle.journal.specs.{Journal.NextOf, declared.Item.TheVariants.Step}
use Rattle.listing.specs.Record.{record_text}
use Rattle.driver.specs.{Listing.{Between, no_line, a_line, lines}, Play.{run_from, Leads}, declared.Checkpoint.Checkpoint}
use Rattle.driver.proofs.Counting.{plus_assoc, plus_none, tally_append, tally_one}

-- ---- one list of steps after another

-- lines that spell steps and then steps
pub steps_append : {j : Bytes} {form a b d : ℕ} {gs hs : List Entry} → Between j form a gs b → Between j form b hs d → Between j form a (gs ++ hs) d
steps_append no_line y = y
steps_append (a_line x r) y = a_line x (steps_append r y)

pub lines_append : (rs ts : List Record) → lines (rs ++ ts) ≡ lines rs ++ lines ts
unfolding lines
lines_append [] ts = refl
lines_append (r ∷ rs) ts = ap (λ (l : Bytes). record_text r.place r.reply ++ l) (lines_append rs ts) ∙ sym (append_assoc (record_text r.place r.reply) (lines rs) (lines ts))

pub run_records : (gs hs : List Entry) (p : ℕ) (m : Machine) → (run (gs ++ hs) p m).records ≡ (run gs p m).records ++ (run hs (p + length gs) (run gs p m).last).records
unfolding run
run_records [] hs p m = ap (λ (k : ℕ). (run hs k m).records) (omega arith)
run_records (g ∷ gs) hs p m =
    let n : suc p + length gs ≡ p + suc (length gs) = omega arith in
    rw (run_records gs hs (suc p) (step m g.call g.given).machine, n)

pub run_last : (gs hs : List Entry) (p : ℕ) (m : Machine) → (run (gs ++ hs) p m).last ≡ (run hs (p + length gs) (run gs p m).last).last
unfolding run
run_last [] hs p m = ap (λ (k : ℕ). (run hs k m).last) (omega arith)
run_last (g ∷ gs) hs p m =
    let n : suc p + length gs ≡ p + suc (length gs) = omega arith in
    rw (run_last gs hs (suc p) (step m g.call g.given).machine, n)

pub run_length : (gs : List Entry) (p : ℕ) (m : Machine) → length (run gs p m).records ≡ length gs
unfolding run
run_length [] p m = refl
run_length (g ∷ gs) p m = ap suc (run_length gs (suc p) (step m g.call g.given).machine)

-- ---- from one checkpoint to another

pub leads_none : (j : Bytes) (s : Checkpoint) (p q : Bytes) → Leads j s p q [] s p q
unfolding run how_many
leads_none j s p q = record { steps = no_line; form = refl; machine = refl; counts = sym (plus_none s.counts) }

-- a call with what is given to it, and the record of it at a checkpoint
abbrev pub entry_of : Call → Bytes → Entry
entry_of call bs = record { call = call; given = bs }

abbrev record_at : Checkpoint → Bytes → Bytes → Call → Bytes → Record
record_at b p q call bs = record { place = place (b.counts.steps + 1); entry = entry_of call bs; reply = (step (machine b.state p q) call bs).reply }

-- a step more
module _ {j : Bytes} {a b : Checkpoint} {p q p' q' : Bytes} {gs : List Entry} (l : Leads j a p q gs b p' q') (call : Call) (bs : Bytes) where
  abbrev reply : Reply
  reply = (step (machine b.state p' q') call bs).reply

  abbrev before : List Record
  before = (run_from a p q gs).records

  records_more : (run_from a p q (gs ++ (entry_of call bs ∷ []))).records ≡ before ++ (record_at b p' q' call bs ∷ [])
  unfolding run
  records_more =
      let k : a.counts.steps + 1 + length gs ≡ b.counts.steps + 1 =
      omega (arith, run_length gs (a.counts.steps + 1) (machine a.state p q), ap (λ (c : Counts). c.steps) l.counts) in
      run_records gs (entry_of call bs ∷ []) (a.counts.steps + 1) (machine a.state p q) ∙ rw (k, ← l.machine)

  pub lines_more : lines (run_from a p q (gs ++ (entry_of call bs ∷ []))).records ≡ lines before ++ record_text (place (b.counts.steps + 1)) reply
  unfolding lines
  lines_more =
      ap lines records_more ∙ lines_append before (record_at b p' q' call bs ∷ [])
      ∙ ap (λ (t : Bytes). lines before ++ t) (append-nil (record_text (place (b.counts.steps + 1)) reply))

  counts_more : sum b.counts (counts_of call reply) ≡ sum a.counts (tally (run_from a p q (gs ++ (entry_of call bs ∷ []))).records)
  counts_more =
      ap (λ (k : Counts). sum k (counts_of call reply)) l.counts ∙ plus_assoc a.counts (tally before) (counts_of call reply)
      ∙ ap (sum a.counts)
      (ap (sum (tally before)) (sym (tally_one (record_at b p' q' call bs))) ∙ sym (ap tally records_more ∙ tally_append before (record_at b p' q' call bs ∷ [])))

  pub leads_more :
      (d : Checkpoint) (x y : Bytes) {start end : ℕ} → NextOf j b.at b.form (Ok (Some (Step call start end d.at))) → bs ≡ part j start (end - start)
      → d.form ≡ b.form → machine d.state x y ≡ (step (machine b.state p' q') call bs).machine → d.counts ≡ sum b.counts (counts_of call reply)
      → Leads j a p q (gs ++ (entry_of call bs ∷ [])) d x y
  unfolding run
  leads_more d x y n g ef em ek =
      record {
        steps = steps_append l.steps (rw g (a_line (rw l.form at n) no_line));
        form = ef ∙ l.form;
        machine = em ∙ sym (run_last gs (entry_of call bs ∷ []) (a.counts.steps + 1) (machine a.state p q) ∙ rw (← l.machine));
        counts = ek ∙ counts_more;
      }
