-- Reading back: a journal that is spelt from an opening and steps which its form can have reads as them; and the steps of a journal, in the other
-- form, are steps which that form can have.
use Prim.Native.Nat.{ℕ, zero, suc, ◌+◌, ◌-◌, ◌≤◌, ◌<◌}
use mathlib.Core.{Path.{◌≡◌, refl, sym, ◌∙◌, ap, subst}, Bool.{Bool, true, false}, List.{List, [], ◌∷◌, ◌++◌, append-nil}}
use native.Mathlib.Omega.{arith}
use lib.{Dec.{ltb, eqb, lit≤, lit<}, ListN.{length, get_or, drop, length-append, length-drop}, Seq.{drop-drop, drop-append-add}}
use borrow.Author.Tests.{ltb-true, ltb-false, eqb-true}
use Rattle.protocol.specs.{Pick.{pick, both, fails}, Limits.opening_fits, Buffers.{Bytes, part}, About.about, Machine.{Machine, fresh_machine}, Step.step}
use Rattle.protocol.specs.{Run.{Entry, Record, place, run}, declared.{Opening.Opening as Sizes, State.State}}
use Rattle.protocol.specs.declared.Call.{Call, TheVariants.{Load, Store, Fence, Evict, Drop, Writeback, Advance, Serve, Receive, Yield, Take, Victim}}
use Rattle.protocol.proofs.{Tests.{never, both_true}, Refusals.{not-true}, Extents.inside}
use Rattle.spelling.specs.{Bytes.Without, Decimal.{decimal, greatest}, Hex.{hex, unhex}}
use Rattle.spelling.proofs.{Lists.all_append, DecimalLaws.decimal_short, Texts.{decimal_without, hex_without}}
use Rattle.grammar.specs.Form.{Part, fixed, value, number, pairs, lay, Given, spellings, spell}
use Rattle.grammar.specs.{Table.{opens, calls, rows_of, row_at}, Line.{LineOf, spelt}, declared.Line.TheVariants.{Opening as OpeningLine, Step as StepLine}}
use Rattle.grammar.proofs.{Fit.Shaped, Forms.row_shape, Rows.{every, every_at}}
use Rattle.journal.specs.Journal.{LineAt, ended as at_end_of, a_line as whole_line}
use Rattle.driver.{specs.Listing.{Between, no_line, a_line, at_end}, proofs.{Reading.{ends_in, ends_drop, line_data}, Running.entry_of}}
use Rattle.convert.specs.{Spelling.{row_of, numbers_of, step_line, opening_line, step_lines, journal_of}, Forms.{owns_copy, in_first, in_second, in_form, converted}}
use Rattle.convert.specs.{Conversion.{form_of, form_from, Reads, is_victim, answers, some, is_unlike, unlike, result_of, refusal_of}, declared.To.{To, TheVariants.{First, Second}}}
use Rattle.std.specs.Prelude.{None, Ok}
use Rattle.convert.proofs.{Lines.{StepSpelt, step_at}, Longer.passed}
use Rattle.converting.proofs.Lists.{none_passes}

-- ---- the text of a line

-- the text of a form has no newline
unfoldable one_line : List Part → Bool
one_line [] = true
one_line (fixed b ∷ p) = both (ltb 10 b) (one_line p)
one_line (value q ∷ p) = one_line p

-- how long the line of a form is at most, its data not counted
unfoldable most_of : List Part → ℕ
most_of [] = 0
most_of (fixed b ∷ p) = 1 + most_of p
most_of (value number ∷ p) = 20 + most_of p
most_of (value pairs ∷ p) = most_of p

-- a line has no newline in it
spell_clean : (p : List Part) → Shaped p → one_line p ≡ true → (ns bs : List ℕ) → Given p ns bs → Without 10 (spell p ns bs)
unfolding Given spellings lay one_line
spell_clean [] h e ns bs g = tt
spell_clean (fixed b ∷ p) h e ns bs g =
    let t = both_true (ltb 10 b) (one_line p) e in ((λ z. omega (arith, ltb-true 10 b t.0)), spell_clean p h t.1 ns bs g)
spell_clean (value number ∷ p) h e [] bs g = absurd g
spell_clean (value number ∷ p) h e (n ∷ ns) bs g =
    all_append (λ b. b ≡ 10 → ⊥) (decimal n) _ (decimal_without 10 (lit< tt) n) (spell_clean p h.1 e ns bs g.1)
spell_clean (value pairs ∷ p) h e ns bs g = rw (h, append-nil) (hex_without 10 (lit< tt) bs)

-- the length of a line
spell_short : (p : List Part) → Shaped p → (ns bs : List ℕ) → Given p ns bs → length (spell p ns bs) ≤ most_of p + length (hex bs)
unfolding Given spellings lay most_of
spell_short [] h ns bs g = omega arith
spell_short (fixed b ∷ p) h ns bs g = omega (arith, spell_short p h ns bs g)
spell_short (value number ∷ p) h [] bs g = absurd g
spell_short (value number ∷ p) h (n ∷ ns) bs g = rw length-append (omega (arith, decimal_short n, spell_short p h.1 ns bs g.1))
spell_short (value pairs ∷ p) h ns bs g = rw (h, append-nil) (omega arith)

-- no row's text has a newline
rows_one_line : (form : ℕ) → every (λ k r. one_line r.form) 0 (rows_of form) ≡ true
unfolding one_line
rows_one_line zero = refl
rows_one_line (suc zero) = refl
rows_one_line (suc (suc zero)) = refl
rows_one_line (suc (suc (suc form))) = refl

-- nor has a line of one
row_clean :
    (form k : ℕ) → k < length (rows_of form) → (ns bs : List ℕ) → Given (row_at (rows_of form) k).form ns bs
    → Without 10 (spell (row_at (rows_of form) k).form ns bs)
row_clean form k h ns bs g =
    spell_clean (row_at (rows_of form) k).form (row_shape form k h) (every_at (λ k r. one_line r.form) (rows_of form) 0 (rows_one_line form) k h) ns bs g

-- a line at an offset, and what comes after it
line_there :
    (j : Bytes) (at : ℕ) (l rest : Bytes) → Without 10 l → drop at j ≡ l ++ (10 ∷ rest)
    → LineAt j at l (at + (length l + 1)) × (drop (at + (length l + 1)) j ≡ rest)
line_there j at l rest c e =
    let r : drop (at + (length l + 1)) j ≡ rest = sym (drop-drop (length l + 1) at j) ∙ ap (drop (length l + 1)) e ∙ drop-append-add l (10 ∷ rest) 1 in
    (record { clean = c; whole = rw r e; after = omega arith }, r)

-- ---- reading steps back

-- the line of a step, and where its data start in it
abbrev line_of : Entry → Bytes
line_of g = step_line g.call g.given

abbrev data_start : Entry → ℕ
data_start g = length (line_of g) - length (hex (unhex g.given))

-- a step that a journal of a form can have
pub record Fits (form : ℕ) (g : Entry) : Type 0 where
  pub spelling : StepSpelt form g.call g.given (line_of g)
  pub short : length (line_of g) ≤ 200

-- each of the steps is one
abbrev pub AllFit : ℕ → List Entry → Type 0
AllFit form [] = Unit
AllFit form (g ∷ gs) = Fits form g × AllFit form gs

module _ (form : ℕ) (g : Entry) (x : Fits form g) where
  -- its line is read as the step
  read_line : LineOf (rows_of form) (line_of g) (Ok (StepLine g.call (data_start g) (length (line_of g))))
  read_line =
      let s = x.spelling in
      spelt {a = StepLine g.call (data_start g) (length (line_of g))} x.short
      (record {
        k = s.row;
        listed = s.listed;
        numbers = numbers_of g.call;
        bytes = unhex g.given;
        given = rw s.is s.given;
        same = rw s.is refl;
        answer = rw (s.is, s.says) refl;
      })

  clean_line : Without 10 (line_of g)
  clean_line = let s = x.spelling in rw s.is at (row_clean form s.row s.listed (numbers_of g.call) (unhex g.given) (rw s.is s.given))

  -- what is given to the call is the data at the line's end
  its_data : drop (data_start g) (line_of g) ≡ g.given
  its_data =
      let s = x.spelling in
      let p = (row_of g.call).form in
      let e = ends_in p (rw s.is at (row_shape form s.row s.listed)) (numbers_of g.call) (unhex g.given) s.given in
      ends_drop p (line_of g) (unhex g.given) e ∙ s.digits

  -- at an offset of a journal
  read_step :
      (j : Bytes) (at next to : ℕ) (gs : List Entry) → length j ≤ 65536 → LineAt j at (line_of g) next → Between j form next gs to
      → Between j form at (g ∷ gs) to
  read_step j at next to gs size h b =
      subst (λ (ds : Bytes). Between j form at (entry_of g.call ds ∷ gs) to) (line_data (data_start g) (length (line_of g)) h (omega arith) refl ∙ its_data)
      (a_line (whole_line (line_of g) next size h read_line) b)

-- lines of steps, up to the end of a journal
steps_read :
    (form : ℕ) (j : Bytes) (gs : List Entry) (at : ℕ) → AllFit form gs → length j ≤ 65536 → drop at j ≡ step_lines gs
    → (to : ℕ) × Between j form at gs to × (length j ≤ to)
unfolding step_lines
steps_read form j [] at a size e = (at, no_line, omega (arith, simp length-drop at (ap length e)))
steps_read form j (g ∷ gs) at a size e =
    let l = line_there j at (line_of g) (step_lines gs) (clean_line form g a.0) e in
    let r = steps_read form j gs (at + (length (line_of g) + 1)) a.1 size l.1 in
    (r.0, read_step form g a.0 j at _ r.0 gs size l.0 r.1, r.2)

-- ---- reading a journal back

-- an opening that a journal of a form can have
pub record OpeningFits (to : To) (o : Sizes) : Type 0 where
  pub cores : o.cores ≤ greatest
  pub lines : o.lines ≤ greatest
  pub width : o.width ≤ greatest
  pub lease : o.lease ≤ greatest
  pub cap : o.cap ≤ greatest
  pub plain : form_of to ≡ 1 → o.cap ≡ o.lines

-- the first line, as it is read
record FirstLine (to : To) (o : Sizes) : Type 0 where
  pub clean : Without 10 (opening_line to o)
  pub read : LineOf (rows_of 0) (opening_line to o) (Ok (OpeningLine (form_of to) o))

-- the line of a first line's row
first_line_lem :
    (to : To) (o : Sizes) (k : ℕ) (ns : List ℕ) → k < length (rows_of 0) → opening_line to o ≡ spell (row_at (rows_of 0) k).form ns []
    → (row_at (rows_of 0) k).says (λ i. get_or ns i 0) ≡ opens (form_of to) o → Given (row_at (rows_of 0) k).form ns []
    → most_of (row_at (rows_of 0) k).form ≤ 200 → FirstLine to o
unfolding hex
first_line_lem to o k ns h e w g m =
    record {
      clean = rw e (row_clean 0 k h ns [] g);
      read =
          spelt {a = OpeningLine (form_of to) o} (rw e (omega (arith, spell_short (row_at (rows_of 0) k).form (row_shape 0 k h) ns [] g)))
          (record { k = k; listed = h; numbers = ns; bytes = []; given = g; same = e; answer = rw w refl });
    }

-- that of each form
opening_read : (to : To) (o : Sizes) → OpeningFits to o → FirstLine to o
unfolding Given most_of
opening_read First o x =
    first_line_lem First o 0 (o.cores ∷ o.lines ∷ o.width ∷ o.lease ∷ []) (lit< tt) refl (rw (x.plain refl))
    (x.cores, (x.lines, (x.width, (x.lease, (refl, refl))))) (lit≤ tt)
opening_read Second o x =
    first_line_lem Second o 1 (o.cores ∷ o.lines ∷ o.width ∷ o.lease ∷ o.cap ∷ []) (lit< tt) refl refl
    (x.cores, (x.lines, (x.width, (x.lease, (x.cap, (refl, refl)))))) (lit≤ tt)

-- no form is 0, the form in which the first line is due
some_form : (to : To) → form_of to ≡ 0 → ⊥
some_form First e = omega arith
some_form Second e = omega arith

from_form : (to : To) → form_from to ≡ 0 → ⊥
from_form First e = omega arith
from_form Second e = omega arith

-- A JOURNAL READS BACK as the opening and the steps that it was spelt from
pub reads_back :
    (to : To) (o : Sizes) (gs : List Entry) → OpeningFits to o → AllFit (form_of to) gs → length (journal_of to o gs) ≤ 65536
    → Reads (form_of to) (journal_of to o gs) o gs
reads_back to o gs x a size =
    let f = opening_read to o x in
    let l = line_there (journal_of to o gs) 0 (opening_line to o) (step_lines gs) f.clean refl in
    let r = steps_read (form_of to) (journal_of to o gs) gs (0 + (length (opening_line to o) + 1)) a size l.1 in
    record {
      next = _;
      to = r.0;
      first = whole_line (opening_line to o) _ size l.0 f.read;
      steps = r.1;
      ends = at_end (at_end_of size r.2 (some_form to));
    }

-- ---- the steps of a journal in the other form

-- a step of a form, where its row is among those of another form
stays :
    {from : ℕ} {g : Entry} (form k : ℕ) → k < length (rows_of form) → row_at (rows_of form) k ≡ row_of g.call
    → (form ≡ 1 → is_victim (about g.call).line ≡ false) → Fits from g → Fits form g
stays form k h e v x =
    record {
      spelling =
          record {
            line = refl;
            row = k;
            listed = h;
            is = e;
            says = x.spelling.says;
            given = x.spelling.given;
            digits = x.spelling.digits;
            plain = v;
          };
      short = x.short;
    }

-- a line of a row that has no data
turns :
    (form k : ℕ) (call : Call) (ds : Bytes) → k < length (rows_of form) → row_at (rows_of form) k ≡ row_of call
    → (row_of call).says (λ i. get_or (numbers_of call) i 0) ≡ calls call → is_victim (about call).line ≡ false → most_of (row_of call).form ≤ 200
    → Given (row_of call).form (numbers_of call) (unhex ds) → unhex ds ≡ [] → hex (unhex ds) ≡ ds → Fits form (entry_of call ds)
unfolding hex
turns form k call ds h e w v m g z d =
    record {
      spelling = record { line = refl; row = k; listed = h; is = e; says = w; given = g; digits = d; plain = λ f. v };
      short =
          omega (
            arith,
            ap length (ap hex z),
            spell_short (row_of call).form (rw e at (row_shape form k h)) (numbers_of call) (unhex ds) g,
          );
    }

-- one of two
pick_either : {A : Type 0} (P : A → Type 0) (b : Bool) {x y : A} → P x → P y → P (pick b x y)
pick_either P true p q = p
pick_either P false p q = q

-- each step of `fabric=1`, in `fabric=2`
in_second_lem : (s : State) (call : Call) (ds : Bytes) → Fits 1 (entry_of call ds) → Fits 2 (entry_of (in_second s call) ds)
unfolding Given most_of
in_second_lem s (Load c l) ds x = stays 2 0 (lit< tt) refl (λ e. refl) x
in_second_lem s (Store g c l) ds x = stays 2 1 (lit< tt) refl (λ e. refl) x
in_second_lem s (Fence c) ds x = stays 2 2 (lit< tt) refl (λ e. refl) x
in_second_lem s (Evict c l) ds x =
    let g = x.spelling.given in
    pick_either (λ (call : Call). Fits 2 (entry_of call ds)) (owns_copy s c l)
    (turns 2 9 (Writeback c l) ds (lit< tt) refl refl refl (lit≤ tt) g g.1.1.1 x.spelling.digits)
    (turns 2 8 (Drop c l) ds (lit< tt) refl refl refl (lit≤ tt) g g.1.1.1 x.spelling.digits)
in_second_lem s (Drop c l) ds x = stays 2 8 (lit< tt) refl (λ e. refl) x
in_second_lem s (Writeback c l) ds x = stays 2 9 (lit< tt) refl (λ e. refl) x
in_second_lem s (Advance c by) ds x = stays 2 5 (lit< tt) refl (λ e. refl) x
in_second_lem s (Serve c) ds x = stays 2 3 (lit< tt) refl (λ e. refl) x
in_second_lem s (Receive c) ds x = stays 2 4 (lit< tt) refl (λ e. refl) x
in_second_lem s (Yield l) ds x = stays 2 6 (lit< tt) refl (λ e. refl) x
in_second_lem s (Take l) ds x = stays 2 7 (lit< tt) refl (λ e. refl) x
in_second_lem s (Victim c) ds x = stays 2 10 (lit< tt) refl (λ e. absurd (omega (arith, e))) x

-- each step of `fabric=2` but a victim step, in `fabric=1`
in_first_lem : (call : Call) (ds : Bytes) → is_victim (about call).line ≡ false → Fits 2 (entry_of call ds) → Fits 1 (entry_of (in_first call) ds)
unfolding Given most_of
in_first_lem (Load c l) ds v x = stays 1 1 (lit< tt) refl (λ e. refl) x
in_first_lem (Store g c l) ds v x = stays 1 2 (lit< tt) refl (λ e. refl) x
in_first_lem (Fence c) ds v x = stays 1 3 (lit< tt) refl (λ e. refl) x
in_first_lem (Evict c l) ds v x = stays 1 0 (lit< tt) refl (λ e. refl) x
in_first_lem (Drop c l) ds v x =
    let g = x.spelling.given in turns 1 0 (Evict c l) ds (lit< tt) refl refl refl (lit≤ tt) g g.1.1.1 x.spelling.digits
in_first_lem (Writeback c l) ds v x =
    let g = x.spelling.given in turns 1 0 (Evict c l) ds (lit< tt) refl refl refl (lit≤ tt) g g.1.1.1 x.spelling.digits
in_first_lem (Advance c by) ds v x = stays 1 6 (lit< tt) refl (λ e. refl) x
in_first_lem (Serve c) ds v x = stays 1 4 (lit< tt) refl (λ e. refl) x
in_first_lem (Receive c) ds v x = stays 1 5 (lit< tt) refl (λ e. refl) x
in_first_lem (Yield l) ds v x = stays 1 7 (lit< tt) refl (λ e. refl) x
in_first_lem (Take l) ds v x = stays 1 8 (lit< tt) refl (λ e. refl) x
in_first_lem (Victim c) ds v x = never v

-- the call of a step of one form, in the other
in_form_lem :
    (to : To) (s : State) (call : Call) (ds : Bytes) → (form_of to ≡ 1 → is_victim (about call).line ≡ false) → Fits (form_from to) (entry_of call ds)
    → Fits (form_of to) (entry_of (in_form to s call) ds)
in_form_lem First s call ds v x = in_first_lem call ds (v refl) x
in_form_lem Second s call ds v x = in_second_lem s call ds x

-- none of the steps is about a victim, where the form has no such step
abbrev pub Plain : To → List Entry → Type 0
Plain to [] = Unit
Plain to (g ∷ gs) = (form_of to ≡ 1 → is_victim (about g.call).line ≡ false) × Plain to gs

-- the steps of one form, in the other
pub converted_fit : (to : To) (gs : List Entry) (m : Machine) → Plain to gs → AllFit (form_from to) gs → AllFit (form_of to) (converted to gs m)
unfolding converted
converted_fit to [] m v a = tt
converted_fit to (g ∷ gs) m v a = (in_form_lem to m.state g.call g.given v.0 a.0, converted_fit to gs _ v.1 a.1)

-- the steps of a journal are steps that its form can have
pub between_fit : {j : Bytes} {form at to : ℕ} {gs : List Entry} → (form ≡ 0 → ⊥) → Between j form at gs to → AllFit form gs
between_fit h no_line = tt
between_fit {j} {form} h (a_line {call = call} {start} {end} n r) =
    let x = step_at form h n in
    let ds = part j start (end - start) in
    let e = x.spelt.line in
    (record { spelling = subst (StepSpelt form call ds) e x.spelt; short = rw e at x.short }, between_fit h r)

-- ---- a journal that converts

-- a record that 32 does not refuse
like_record : (r : Record) → is_unlike r ≡ false → (is_victim (about r.entry.call).line ≡ false) × (answers 30 r.reply ≡ false)
like_record r e = none_passes (is_victim (about r.entry.call).line) (answers 30 r.reply) e

-- no step answers 30
pub none_thirty : (rs : List Record) → some is_unlike rs ≡ false → some (λ (r : Record). answers 30 r.reply) rs ≡ false
unfolding some
none_thirty [] e = refl
none_thirty (r ∷ rs) e = let t = none_passes (is_unlike r) (some is_unlike rs) e in rw (like_record r t.0).1 (none_thirty rs t.1)

-- none is about a victim
plain_first : (gs : List Entry) (p : ℕ) (m : Machine) → some is_unlike (run gs p m).records ≡ false → Plain First gs
unfolding run some
plain_first [] p m e = tt
plain_first (g ∷ gs) p m e =
    let r : Record = record { place = place p; entry = g; reply = (step m g.call g.given).reply } in
    let t = none_passes (is_unlike r) _ e in
    ((λ z. (like_record r t.0).0), plain_first gs (suc p) (step m g.call g.given).machine t.1)

-- `fabric=2` has victims
plain_second : (gs : List Entry) → Plain Second gs
plain_second [] = tt
plain_second (g ∷ gs) = ((λ e. absurd (omega (arith, e))), plain_second gs)

-- what is known of a journal that is not refused
pub record Accepted (to : To) (o : Sizes) (gs : List Entry) : Type 0 where
  pub fits : opening_fits o ≡ true
  pub like : unlike to o gs ≡ false
  pub short : length (result_of to o gs) ≤ 65536

-- it passes each test
pub accepted : (to : To) (o : Sizes) (gs : List Entry) (room : ℕ) → refusal_of to o gs room ≡ None → Accepted to o gs
unfolding refusal_of
accepted to o gs room e =
    let a = passed _ _ _ e in
    let b = passed _ _ _ a.1 in
    let c = passed _ _ _ b.1 in
    record { fits = not-true (opening_fits o) a.0; like = b.0; short = ltb-false _ _ c.0 }

-- what is known of the opening and the steps of a journal that 32 does not refuse
like_known : (to : To) (o : Sizes) (gs : List Entry) → unlike to o gs ≡ false → (form_of to ≡ 1 → o.cap ≡ o.lines) × Plain to gs
unfolding unlike
like_known First o gs e =
    let t = none_passes (fails (eqb o.cap o.lines)) _ e in ((λ z. eqb-true _ _ (not-true _ t.0)), plain_first gs 1 (fresh_machine o) t.1)
like_known Second o gs e = ((λ z. absurd (omega (arith, z))), plain_second gs)

-- THE RESULT READS as the same opening, and the steps in the other form
pub result_reads :
    (to : To) (j : Bytes) (o : Sizes) (gs : List Entry) (room : ℕ) → Reads (form_from to) j o gs → refusal_of to o gs room ≡ None
    → Reads (form_of to) (result_of to o gs) o (converted to gs (fresh_machine o))
result_reads to j o gs room x e =
    let a = accepted to o gs room e in
    let i = inside o a.fits in
    let k = like_known to o gs a.like in
    reads_back to o (converted to gs (fresh_machine o))
    (record {
      cores = omega (arith, i.most_cores);
      lines = omega (arith, i.most_lines);
      width = omega (arith, i.most_width);
      lease = omega (arith, i.most_lease);
      cap = omega (arith, i.most_cap, i.most_lines);
      plain = k.0;
    })
    (converted_fit to gs (fresh_machine o) k.1 (between_fit (from_form to) x.steps)) a.short
