-- The driver's loop: what holds at its head, that a step keeps it, and what it gives where the loop is left.
use Prim.Native.Nat.{ℕ, ◌+◌, ◌-◌, ◌≤◌}
use mathlib.Core.{Path.{◌≡◌, refl, sym, ◌∙◌, ap}, Bool.true, List.{List, [], ◌∷◌, ◌++◌}}
use native.Mathlib.Omega.{arith}
use lib.ListN.{length, take}
use Rattle.protocol.specs.{Buffers.{Bytes, part}, About.about, Given.{given_as, bytes_as, bytes_given}, Refusals.machine_refusal}
use Rattle.protocol.specs.Machine.{Machine, machine, written, applied}
use Rattle.protocol.specs.{Step.{Reply, meaning, act_bytes, Outcome, accepted, step}, Run.{Entry, place, run}, Counts.{counts_of, sum}}
use Rattle.protocol.{specs.declared.{Opening.Opening as Sizes, State.State, Call.Call, About.About, Pieces.Pieces, Given.Given, Counts.Counts, Effect.Effect}, proofs.Keep.still}
use Rattle.spelling.specs.Over.{PutAt}
use Rattle.refusals.{specs.Input.{input_refusal, applies}, proofs.Laws.or_applies}
use Rattle.buffers.specs.Moves.{Moves}
use Rattle.listing.specs.Record.{record_text}
use Rattle.tables.{specs.{declared.seen.Seen.Seen, Found.effect_with, Seen.{core_seen, line_seen, pieces_seen, Sees}}, proofs.Making.{is_step, is_moved, is_inside}}
use Rattle.std.specs.Prelude.{Option}
use Rattle.grammar.specs.declared.Refusal.{Refusal}
use Rattle.driver.specs.Listing.{Ending, EndsAt, lines, last_lines}
use Rattle.driver.specs.Play.{run_from, few, resumable, Leads, Piece, a_step, the_end, Fills, finished, more, Plays}
use Rattle.driver.specs.Pieces.{ending_of, StepDue, DueAt, a_step as is_step_here, the_end as is_end, beside, BesideInside, answer_line}
use Rattle.driver.specs.{Pieces.played_by, declared.{Checkpoint.Checkpoint, Played.Played, Due.{Due, TheVariants.{Step, Last as AtLast}}}}
use Rattle.driver.proofs.{Counting.{same_counts, few_later}, Stepping.{effect_seen, replied, reply_printed}, Running.{entry_of, leads_none, leads_more, lines_more}}
use Rattle.driver.proofs.{Resuming.{Resumes, leads_on}, Putting.{Written, put_written, put_short, fills_none, fills_more}}
use Rattle.std.specs.Prelude.{Some, None}

-- at the loop's head: the steps gs were made from one checkpoint to the other, and their lines are written
pub record Reached (j : Bytes) (from : Checkpoint) (p₀ q₀ old : Bytes) (base : Option ℕ) (p q out : Bytes) (there : Checkpoint) (used : ℕ) : Type 0 where
  pub start : resumable (length j) from ≡ true
  pub based : base ≡ applies (machine_refusal (machine there.state p q))
  pub gs : List Entry
  pub leads : Leads j from p₀ q₀ gs there p q
  pub text : take used out ≡ lines (run_from from p₀ q₀ gs).records
  pub fills : Fills old out used

-- ---- the loop begins

pub reached_start :
    (j : Bytes) (s : Checkpoint) (p q old : Bytes) (base : Option ℕ) → resumable (length j) s ≡ true → base ≡ applies (machine_refusal (machine s.state p q))
    → Reached j s p q old base p q old s 0
unfolding run lines
reached_start j s p q old base e b =
    record { start = e; based = b; gs = []; leads = leads_none j s p q; text = refl; fills = fills_none old }

module _ {j : Bytes} {from : Checkpoint} {p₀ q₀ old : Bytes} {base : Option ℕ} {p q out : Bytes} {there : Checkpoint} {used : ℕ} (g : Reached j from p₀ q₀ old base p q out there used) where
  -- the run is at a checkpoint of the journal, and the counts leave room for more
  pub at_checkpoint : Resumes (length j) there
  at_checkpoint = leads_on g.start g.leads

  pub room_for : (n : ℕ) → length j ≤ n → few there.counts n ≡ true
  room_for n h = let r = at_checkpoint in few_later there.counts there.at n r.few (omega (arith, r.inside))

  -- ---- the loop is left

  -- no room for the next piece
  pub no_room :
      (t out' : Bytes) (put : Option ℕ) (r : Played) → Piece j there p q t → PutAt out used t out' put → put ≡ None → r ≡ played_by None used there
      → Plays j from p₀ q₀ old p q out' r
  no_room t out' put r x w z e =
      let h = put_short w z in
      let i = g.fills.within in
      rw (e, h.1) (record { fills = g.fills; tells = more g.start g.leads g.text x (omega (arith, h.0)) })

  -- the last lines are put, or there is no room for them
  pub finish :
      (e : Ending) (out' : Bytes) (put : Option ℕ) (r : Played) → EndsAt j there.form there.at e → PutAt out used (last_lines there.counts e) out' put
      → r ≡ played_by put used there → Plays j from p₀ q₀ old p q out' r
  finish e out' (Some k) r x w f =
      let v = put_written w refl in
      rw f
      (record {
        fills = fills_more g.fills v;
        tells = finished g.start g.leads x (v.before ∙ ap (λ (l : Bytes). l ++ last_lines there.counts e) g.text);
      })
  finish e out' None r x w f = no_room _ out' None r (the_end x) w refl f

  -- ---- a step

  module _ {call : Call} {r : Option ℕ} {start end next : ℕ} (x : StepDue j there base call r start end next) where
    abbrev digits : Bytes
    digits = part j start (end - start)

    abbrev m : Machine
    m = machine there.state p q

    abbrev reply : Reply
    reply = (step m call digits).reply

    input : r ≡ applies (input_refusal m call digits)
    input = rw (x.right, ← or_applies, ← g.based) x.number

    -- a step more, whose line was put
    stepped :
        (s' : State) (p' q' out' : Bytes) (e : ℕ) (k : Counts) → machine s' p' q' ≡ (step m call digits).machine → k ≡ sum there.counts (counts_of call reply)
        → Written out used (record_text (place (there.counts.steps + 1)) reply) out' e
        → Reached j from p₀ q₀ old base p' q' out' (record { at = next; form = there.form; counts = k; state = s' }) e
    stepped s' p' q' out' e k em ek v =
        record {
          start = g.start;
          based = g.based ∙ ap applies (rw em (still m call digits));
          gs = g.gs ++ (entry_of call digits ∷ []);
          leads = leads_more g.leads call digits (record { at = next; form = there.form; counts = k; state = s' }) p' q' x.line refl refl em ek;
          text = v.before ∙ rw g.text (sym (lines_more g.leads call digits));
          fills = fills_more g.fills v;
        }

-- ---- a step, from what its parts ensure

pub step_due :
    {j : Bytes} {s : Checkpoint} {base : Option ℕ} {u : Due} {call : Call} {r : Option ℕ} {start end next : ℕ} → DueAt j s base u
    → u ≡ Step call r start end next → StepDue j s base call r start end next
step_due {j} {s} {base} {call = call} {r} {start} {end} {next} (is_step_here {call = call'} {r = r'} {start = start'} {end = end'} {next = next'} x) e =
    let ec : call' ≡ call = cc in
    let er : r' ≡ r = cc in
    let es : start' ≡ start = cc in
    let ed : end' ≡ end = cc in
    let ex : next' ≡ next = cc in
    rw (← ec, ← er, ← es, ← ed, ← ex) x
step_due (is_end x) e = absurd (let z : ◌≡◌ {A = ℕ} 0 1 = cc in omega arith)

pub end_due :
    {j : Bytes} {s : Checkpoint} {base : Option ℕ} {u : Due} {w : Option Refusal} → DueAt j s base u → u ≡ AtLast w
    → EndsAt j s.form s.at (ending_of w)
end_due (is_step_here x) e = absurd (let z : ◌≡◌ {A = ℕ} 0 1 = cc in omega arith)
end_due {j} {s} {w = w} (is_end {w = w'} x) e = let ew : w' ≡ w = cc in rw (← ew) x

-- a step that is due, what the call sees, and the effect d on that
pub record StepInPlace (j : Bytes) (from : Checkpoint) (p₀ q₀ old : Bytes) : Type 0 where
  pub o : Sizes
  pub base : Option ℕ
  pub p : Bytes
  pub q : Bytes
  pub out : Bytes
  pub there : Checkpoint
  pub used : ℕ
  pub call : Call
  pub r : Option ℕ
  pub start : ℕ
  pub end : ℕ
  pub next : ℕ
  pub w : About
  pub x : Seen
  pub d : Effect
  pub opening : o ≡ there.state.opening
  pub reached : Reached j from p₀ q₀ old base p q out there used
  pub due : StepDue j there base call r start end next
  pub about : w ≡ about call
  pub sees : Sees call there.state x
  pub effect : d ≡ effect_with r call x.pieces o

module _ {j : Bytes} {from : Checkpoint} {p₀ q₀ old : Bytes} (s : StepInPlace j from p₀ q₀ old) where
  -- what is given to it
  abbrev given : Bytes
  given = part j s.start (s.end - s.start)

  abbrev here : Machine
  here = machine s.there.state s.p s.q

  abbrev outcome : Outcome
  outcome = step here s.call given

  -- the core and the line that it sees, and the effect on them
  core_is : s.x.core ≡ core_seen s.call s.there.state
  core_is = s.sees.core

  line_is : s.x.pieces.number ≡ line_seen s.call s.there.state
  unfolding pieces_seen
  line_is = ap (λ (y : Pieces). y.number) s.sees.pieces

  effect_is : s.d ≡ effect_seen here s.call given
  effect_is = s.effect ∙ rw (s.opening, input s.reached s.due, s.sees.pieces)

  -- the bytes beside the answer lie in the private buffer
  pub shows : BesideInside s.d.answer s.o s.x.core s.x.pieces.number (length s.p)
  shows = rw (s.opening, effect_is, core_is, line_is) (is_inside here s.call given _ refl _ refl)

  -- the line that is put is the reply's
  abbrev line_put : Bytes
  line_put = answer_line (s.there.counts.steps + 1) s.w.act s.d.answer given s.o s.p s.x.core s.x.pieces.number

  put_is : line_put ≡ record_text (place (s.there.counts.steps + 1)) outcome.reply
  put_is =
      rw (s.opening, effect_is, core_is, line_is, s.about) (reply_printed here s.call given (place (s.there.counts.steps + 1)) s.due.right)

  reply_is :
      meaning s.d.answer (act_bytes s.w.act (bytes_given s.call given) (beside s.d.answer s.o s.p s.x.core s.x.pieces.number))
      ≡ outcome.reply
  reply_is = rw (s.opening, effect_is, core_is, line_is, s.about) (replied here s.call given)

  counts_are :
      {k : Counts} → k ≡ sum s.there.counts (counts_of s.call (meaning s.d.answer []))
      → k ≡ sum s.there.counts (counts_of s.call outcome.reply)
  counts_are e = e ∙ ap (sum s.there.counts) (same_counts s.call s.d.answer [] _ ∙ ap (counts_of s.call) reply_is)

  -- there is no room for it
  pub step_short :
      (out' : Bytes) (put : Option ℕ) (r : Played) → PutAt s.out s.used line_put out' put → put ≡ None
      → r ≡ played_by None s.used s.there → Plays j from p₀ q₀ old s.p s.q out' r
  step_short out' put r y z e = no_room s.reached _ out' put r (a_step s.due.line) (rw put_is at y) z e

  machine_is :
      (p' q' : Bytes) (g : Given) → g ≡ given_as s.w.act
      → Moves s.d.moves s.o s.x.core s.x.pieces.number (bytes_as g given) s.p s.q p' q'
      → machine (written s.there.state s.x.core s.x.pieces.number s.d) p' q' ≡ outcome.machine
  unfolding accepted applied
  machine_is p' q' g h b =
      let i = is_moved here s.call given _ refl p' q' (rw (h, s.about, s.opening, effect_is, core_is, line_is) at b) in
      rw (effect_is, core_is, line_is, i.0, i.1) (sym (ap (λ (x : Outcome). x.machine) (is_step here s.call given _ refl)))

  -- it was put, and the effect is written back
  pub step_made :
      (s' : State) (p' q' out' : Bytes) (put : Option ℕ) (e : ℕ) (k : Counts) (g : Given) → PutAt s.out s.used line_put out' put → put ≡ Some e
      → g ≡ given_as s.w.act → Moves s.d.moves s.o s.x.core s.x.pieces.number (bytes_as g given) s.p s.q p' q'
      → k ≡ sum s.there.counts (counts_of s.call (meaning s.d.answer []))
      → s' ≡ written s.there.state s.x.core s.x.pieces.number s.d
      → Reached j from p₀ q₀ old s.base p' q' out' (record { at = s.next; form = s.there.form; counts = k; state = s' }) e
  step_made s' p' q' out' put e k g y z h b i w =
      stepped s.reached s.due s' p' q' out' e k (rw w (machine_is p' q' g h b)) (counts_are i) (put_written (rw put_is at y) z)
