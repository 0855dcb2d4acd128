-- What is written in one piece has at most 246 bytes. So with an output of that length each call of `start` and of `play` writes something, and
-- the calls come to the listing's last line.
use Prim.Native.Nat.{ℕ, ◌+◌, ◌≤◌, ◌<◌}
use mathlib.Core.{Path.{◌≡◌, refl, sym, ◌∙◌, ap}, Bool.{Bool, true, false}, List.{List, [], ◌∷◌}}
use native.Mathlib.Omega.{arith}
use lib.{Dec.eqb, ListN.{length, drop, length-append, length-take}}
use borrow.Author.Tests.{eqb-true}
use Rattle.protocol.proofs.{Tests.never, Extents.inside, Refusals.{machine_fit, named, store_width, not_refused}}
use Rattle.protocol.specs.{Pick.pick, Buffers.{Bytes, copy_start, copy_bytes}, About.about, Given.bytes_given, Machine.{Machine, machine}}
use Rattle.protocol.specs.{Refusals.{open_refusal, wrong_count, refusal}, Run.{Entry, place, run}}
use Rattle.protocol.specs.{Step.{refused, done as reply, meaning, act_bytes, commit_bytes, open_reply, accepted, step}, Counts.{one_of, sum}}
use Rattle.protocol.specs.declared.{Place.Place, Counts.Counts, Class.TheVariants.Refused as ARefusal, Opening.Opening as Sizes, Call.Call}
use Rattle.protocol.specs.declared.{Act.{Act, TheVariants.{Load, Store, Fence, Advance, Transfer}}, Answer.TheVariants.Done, Name.TheVariants.Open}
use Rattle.protocol.specs.declared.Effect.{Effect}
use Rattle.journal.proofs.Lines.{line_read, line_inside}
use Rattle.listing.{specs.Record.record_text, proofs.Lengths.{record_length, end_length}}
use Rattle.driver.proofs.{Reading.known, Counting.few_none, Resuming.{resumes_again, steps_long, leads_on}, Putting.refused_length}
use Rattle.grammar.specs.{Refusal.number, declared.Refusal.{Refusal}}
use Rattle.driver.specs.Listing.{Ending, ended, stopped, entry_at, lines, last_lines, not_opened}
use Rattle.driver.specs.Play.{resumable, Piece, a_step, the_end, Tells, finished, more, unfit, first_checkpoint, Begins, opens, fails, no_room, no_room_to_end, Starts}
use Rattle.driver.specs.declared.{Checkpoint.Checkpoint, Progress.{Progress, TheVariants.More}, Played.Played}
use Rattle.playing.proofs.Writing.{text_and_room}
use Rattle.playing.specs.Theorems.{piece_bytes, Begun, listed, running, Onward, ends, further, StartAdvancesTheorem, PlayAdvancesTheorem}

-- ---- how long a piece is

-- the bytes of a copy are a line's at most
copy_few : (o : Sizes) (p : Bytes) (c l : ℕ) → length (copy_bytes o p c l) ≤ o.width
copy_few o p c l = let n = length-take o.width (drop (copy_start o c l) p) in omega arith

-- a commit's bytes are a line's at most
act_few :
    (t : Act) (o : Sizes) (p bs : Bytes) (c l : ℕ) → wrong_count t o (length bs) ≡ false → length (act_bytes t bs (copy_bytes o p c l)) ≤ o.width
act_few (Store g) o p bs c l e = omega (arith, store_width g o (length bs) e)
act_few Load o p bs c l e = copy_few o p c l
act_few Fence o p bs c l e = copy_few o p c l
act_few (Advance n) o p bs c l e = copy_few o p c l
act_few Transfer o p bs c l e = copy_few o p c l

-- a step's line: 118 bytes beside its data, where each number has twenty digits, and two digits for each of 64 bytes
step_length : (at : Place) (m : Machine) (call : Call) (given : Bytes) → length (record_text at (step m call given).reply) ≤ piece_bytes
unfolding step accepted
step_length at m call given = go (eqb (refusal m call given) 0) refl _ _ _
  where
    bs : Bytes
    bs = bytes_given call given

    go :
        (b : Bool) → eqb (refusal m call given) 0 ≡ b → (c l : ℕ) (d : Effect)
        → length (record_text at (pick b (accepted m call bs c l d) (record { reply = refused (refusal m call given); machine = m })).reply) ≤ piece_bytes
    go true e c l d =
        let k = not_refused m call given (eqb-true _ 0 e) in
        let i = inside m.state.opening (machine_fit m k.machine_ok).opening in
        let n = act_few (about call).act m.state.opening m.private bs c l (named call m.state.opening (length bs) k.call_ok).count in
        omega (arith, i.most_width, record_length at d.answer (commit_bytes call bs (copy_bytes m.state.opening m.private c l)))
    go false e c l d = omega (arith, refused_length at (refusal m call given))

-- the last lines of a run
last_length : (k : Counts) (e : Ending) → length (last_lines k e) ≤ piece_bytes
last_length k ended = omega (arith, end_length k)
last_length k (stopped n) =
    simp length-append (omega (arith, refused_length (place (k.steps + 1)) (number n), end_length (sum k (one_of 1 ARefusal))))

-- what is written next, whatever it is
piece_length : {j : Bytes} {s : Checkpoint} {p q t : Bytes} → Piece j s p q t → length t ≤ piece_bytes
piece_length {j} {s} {p} {q} (a_step {call = call} {start = start} {end = end} x) =
    step_length (place (s.counts.steps + 1)) (machine s.state p q) call (entry_at j call start end).given
piece_length {s = s} (the_end {e = e} x) = last_length s.counts e

-- the line of an opening, and the listing of a journal that opens no engine
opening_length : (o : Sizes) → length (record_text (place 0) (open_reply o)) ≤ piece_bytes
unfolding meaning
opening_length o = go (eqb (open_refusal o) 0)
  where
    go : (b : Bool) → length (record_text (place 0) (pick b (reply Open) (refused (open_refusal o)))) ≤ piece_bytes
    go true = omega (arith, record_length (place 0) (Done Open) [])
    go false = omega (arith, refused_length (place 0) (open_refusal o))

unopened_length : (n : Refusal) → length (not_opened n) ≤ piece_bytes
unopened_length n = simp length-append (omega (arith, refused_length (place 0) (number n), end_length (one_of 0 ARefusal)))

-- ---- the run gets to its end

-- where a line is written, a step was made
lines_some : (gs : List Entry) (n : ℕ) (m : Machine) → 0 < length (lines (run gs n m).records) → 0 < length gs
unfolding run lines
lines_some [] n m h = absurd (omega arith)
lines_some (g ∷ gs) n m h = omega arith

-- where the output has room for a piece, a call of `play` that goes on wrote the line of a step
told_onward :
    {j : Bytes} {from : Checkpoint} {p q : Bytes} {there : Checkpoint} {p' q' text : Bytes} {room : ℕ} {g : Progress} → Tells j from p q there p' q' text room g
    → resumable (length j) from ≡ true → piece_bytes ≤ length text + room → Onward j from there g
told_onward (finished s l r t) e h = ends
told_onward {from = from} {p} {q} (more {gs = gs} s l t x r) e h =
    let n = lines_some gs (from.counts.steps + 1) (machine from.state p q) (omega (arith, ap length t, piece_length x)) in
    further (omega (arith, steps_long l.steps)) (resumes_again _ _ (leads_on s l))
told_onward (unfit s a b d t) e h = never (sym e ∙ s)

-- a run that was started goes on from its checkpoint
begun_resumes : {j : Bytes} {there : Checkpoint} {text : Bytes} {room : ℕ} {g : Progress} → Begins j there text room g → g ≡ More → resumable (length j) there ≡ true
begun_resumes {j} (opens {form = f} {o = o} {next = n} x h t u) e =
    let i = line_inside (line_read x refl).1 in
    rw t (resumes_again (length j) (first_checkpoint n f o) (record { named = (known x).1; inside = i.1; few = few_none n }))
begun_resumes (fails n t u) e = absurd (let z : ◌≡◌ {A = ℕ} 0 1 = cc in omega arith)
begun_resumes (no_room x h t u r) e = absurd (let z : ◌≡◌ {A = ℕ} 0 1 = cc in omega arith)
begun_resumes (no_room_to_end n t u r) e = absurd (let z : ◌≡◌ {A = ℕ} 0 1 = cc in omega arith)

pub start_resumes : {j old new : Bytes} {r : Played} → Starts j old new r → r.progress ≡ More → resumable (length j) r.checkpoint ≡ true
start_resumes x e = begun_resumes x.begins e

-- and `start` is never short of room
told_begun :
    {j : Bytes} {there : Checkpoint} {text : Bytes} {room : ℕ} {g : Progress} → Begins j there text room g → piece_bytes ≤ length text + room → Begun j there g
told_begun {room = room} (opens x h t u) k = running (begun_resumes {room = room} (opens x h t u) refl)
told_begun (fails n t u) k = listed
told_begun (no_room {o = o} x h t u r) k = absurd (omega (arith, opening_length o, ap length u))
told_begun (no_room_to_end {r = n} x t u r) k = absurd (omega (arith, unopened_length n, ap length u))

pub play_advances_theorem : PlayAdvancesTheorem
play_advances_theorem j from p q old p' q' new r x s h = told_onward x.tells s (omega (arith, text_and_room x.fills))

pub start_advances_theorem : StartAdvancesTheorem
start_advances_theorem j old new r x h = told_begun x.begins (omega (arith, text_and_room x.fills))
