-- Going through a core's copies finds how many it holds, and its victim. And a call that does not look them over does not depend on how many there
-- are.
use Prim.Native.Nat.{ℕ, zero, suc, ◌+◌, ◌≤◌, ◌<◌}
use mathlib.Core.{Path.{◌≡◌, refl, sym, ◌∙◌, ap}, Bool.{Bool, true, false}, Logic.{◌⊎◌, inl, inr}, List.{[], ◌∷◌}}
use native.Mathlib.{Numerals.add-one, Omega.arith}
use lib.Dec.{ltb, leb, eqb}
use Rattle.std.specs.Prelude.{Option, Some, None}
use borrow.Author.Tests.{ltb-false, le-leb, lt-leb, lt-ltb}
use Rattle.protocol.specs.{Pick.{pick, both, fails}, About.about, Copies.{is_held, Copies, held_below, rank, rank_of, below, replaces, victim_below}}
use Rattle.protocol.specs.{Machine.{pieces, copy_at, copies_of, victim_of, the_line}, Refusals.{state_rules, state_refusal}}
use Rattle.protocol.specs.declared.Pieces.{Pieces}
use Rattle.protocol.specs.Tables.{load_owned, load_table, store_table, fence_table, advance_table, evict_table, same_version, leased_to, serve_load, serve_asked}
use Rattle.protocol.specs.Tables.{serve_table, receive_renew, receive_grant, receive_table, yield_table, take_table, table_of, effect_of}
use Rattle.protocol.specs.declared.Grant.{Grant, TheVariants.{Share as GrantShare, Renew as GrantRenew, Own as GrantOwn}}
use Rattle.protocol.specs.declared.{Copy.{Copy, TheVariants.{None as NoCopy, Shared as CopyShared, Owned as CopyOwned}}, Stamp.Stamp}
use Rattle.protocol.specs.declared.{Want.{Want, TheVariants.{Load as WantLoad, Store as WantStore}}, Slot.{Slot, TheVariants.{Empty, Asked, Answered}}}
use Rattle.protocol.specs.declared.{Core.Core, Manager.{Manager, TheVariants.{Shared, Owned}}, Flight.Flight}
use Rattle.protocol.specs.declared.{ManagerLine.ManagerLine, Opening.Opening, State.State, Name.Name}
use Rattle.protocol.specs.declared.Call.{Call, TheVariants.{Load, Store, Fence, Evict, Drop, Writeback as WriteBack, Advance}}
use Rattle.protocol.specs.declared.Call.TheVariants.{Serve, Receive, Yield, Take, Victim}
use Rattle.protocol.specs.declared.Which.{Which, TheVariants.{Named as NamedLine, Asked as OfAsked, Answered as OfAnswered, Nothing, Victim as OfVictim}}
use Rattle.protocol.proofs.{Tests.never, Copies.{count_most, none_held, victim_theorem}}
use Rattle.tables.specs.{declared.copies.Look.Look, Look.{one_more, found, with_copy, look_to, looks_over, top_of}}

-- ---- what is found

-- what was found after the lines below n: the copy found is the victim's, or none is held
record Seen (f : Copies) (n : ℕ) (k : Look) : Type 0 where
  pub copies : k.copies ≡ held_below f n
  pub line : k.line ≡ victim_below f n
  pub copy : ((k.copy ≡ NoCopy) × (held_below f n ≡ 0)) ⊎ ((k.copy ≡ f (victim_below f n)) × (is_held (f (victim_below f n)) ≡ true))

-- the first line that is held is the victim
first_held : (f : Copies) (n : ℕ) → held_below f n ≡ 0 → is_held (f n) ≡ true → n ≡ victim_below f (suc n)
first_held f n e h = (victim_theorem f (suc n)).only n (record {
  inside = omega arith;
  held = h;
  least = λ k i j m. absurd (none_held f n e k (omega (arith, i, m)) j);
})

one_more_lem : (n : ℕ) → n < 64 → one_more n ≡ n + 1
one_more_lem n h = rw (lt-ltb n 64 h)

-- the victim and the count with one line more
module _ (f : Copies) (n : ℕ) where
  replaced : replaces (f n) n (f (victim_below f n)) (victim_below f n) ≡ true → n ≡ victim_below f (suc n)
  unfolding victim_below
  replaced e = rw e

  kept : replaces (f n) n (f (victim_below f n)) (victim_below f n) ≡ false → victim_below f n ≡ victim_below f (suc n)
  unfolding victim_below
  kept e = rw e

  more_held : is_held (f n) ≡ true → held_below f (suc n) ≡ held_below f n + 1
  unfolding held_below
  more_held e = rw e

  same_held : is_held (f n) ≡ false → held_below f (suc n) ≡ held_below f n
  unfolding held_below
  same_held e = rw e (omega arith)

module _ (f : Copies) (n : ℕ) (h : n < 64) (k : Look) (s : Seen f n k) where
  counted : one_more k.copies ≡ held_below f n + 1
  counted = let m = count_most f n in rw s.copies (one_more_lem (held_below f n) (omega (arith, m)))

  -- a line that is not held
  passes : is_held (f n) ≡ false → Seen f (suc n) k
  passes e = record { copies = s.copies ∙ sym (same_held f n e); line = s.line ∙ v; copy = go s.copy }
    where
      v : victim_below f n ≡ victim_below f (suc n)
      v = kept f n (rw e)

      go : ((k.copy ≡ NoCopy) × (held_below f n ≡ 0)) ⊎ ((k.copy ≡ f (victim_below f n)) × (is_held (f (victim_below f n)) ≡ true))
          → ((k.copy ≡ NoCopy) × (held_below f (suc n) ≡ 0)) ⊎ ((k.copy ≡ f (victim_below f (suc n))) × (is_held (f (victim_below f (suc n))) ≡ true))
      go (inl a) = inl (a.0, same_held f n e ∙ a.1)
      go (inr a) = inr (a.0 ∙ ap f v, ap (λ l. is_held (f l)) (sym v) ∙ a.1)

  -- a line that is held, after which w is the victim
  meets : (w : ℕ) → is_held (f n) ≡ true → w ≡ victim_below f (suc n) → is_held (f w) ≡ true → Seen f (suc n) (found (one_more k.copies) w (f w))
  meets w e v i = record {
    copies = counted ∙ sym (more_held f n e);
    line = v;
    copy = inr (ap f v, ap (λ l. is_held (f l)) (sym v) ∙ i);
  }

  held_next : is_held (f n) ≡ true → Seen f (suc n) (with_copy k n (f n))
  unfolding with_copy
  held_next e = rw e (go s.copy)
    where
      -- by whether the line found so far ranks after this one
      by : (t : Bool) → below (rank f n) (rank f (victim_below f n)) ≡ t → is_held (f (victim_below f n)) ≡ true
          → Seen f (suc n) (pick t (found (one_more k.copies) n (f n)) (found (one_more k.copies) (victim_below f n) (f (victim_below f n))))
      by true q i = meets n e (replaced f n (rw (e, i, q))) e
      by false q i = meets (victim_below f n) e (kept f n (rw (e, i, q))) i

      go : ((k.copy ≡ NoCopy) × (held_below f n ≡ 0)) ⊎ ((k.copy ≡ f (victim_below f n)) × (is_held (f (victim_below f n)) ≡ true))
          → Seen f (suc n) (pick (pick (is_held k.copy) (below (rank_of (f n) n) (rank_of k.copy k.line)) true) (found (one_more k.copies) n (f n)) (found (one_more k.copies) k.line k.copy))
      go (inl a) = rw a.0 (meets n e (first_held f n a.1 e) e)
      go (inr a) = rw (a.0, s.line, a.1) (by (below (rank f n) (rank f (victim_below f n))) refl a.1)

  next : Seen f (suc n) (with_copy k n (f n))
  unfolding with_copy
  next = go (is_held (f n)) refl
    where
      go : (b : Bool) → is_held (f n) ≡ b → Seen f (suc n) (with_copy k n (f n))
      go true e = held_next e
      go false e = rw e (passes e)

seen : (f : Copies) (n : ℕ) → n ≤ 64 → Seen f n (look_to f n)
unfolding look_to held_below victim_below
seen f zero h = record { copies = refl; line = refl; copy = inl (refl, refl) }
seen f (suc n) h = next f n (omega (arith, h)) (look_to f n) (seen f n (omega (arith, h)))

-- what a loop knows that goes through the copies f and has passed j lines: with one line more, and where it ends
pub look_next : (f : Copies) (j : ℕ) (k r : Look) → k ≡ look_to f j → r ≡ with_copy k j (f j) → r ≡ look_to f (j + 1)
unfolding look_to
look_next f j k r e h = h ∙ rw (e, add-one)

pub look_ends : (f : Copies) (j top : ℕ) (k : Look) → j ≤ top → top ≤ j → k ≡ look_to f j → k ≡ look_to f top
look_ends f j top k h i e = let q : j ≡ top = omega (arith, h, i) in rw q at e

-- ranks that differ in the last place alone
pub last_below : (a b : ℕ) → below (a ∷ []) (b ∷ []) ≡ ltb a b
unfolding below
last_below a b = go (ltb a b) (eqb a b)
  where
    go : (s t : Bool) → pick s true (both t false) ≡ s
    go true t = refl
    go false true = refl
    go false false = refl

-- ---- of a call

-- what a call finds that looks over its core's copies
module _ (s : State) (c : ℕ) (w : Which) (low : s.opening.lines ≤ 64) (looks : looks_over w s.opening ≡ true) where
  all_seen : Seen (copy_at s c) s.opening.lines (look_to (copy_at s c) (top_of w s.opening))
  all_seen = rw (looks, le-leb _ _ low) (seen (copy_at s c) s.opening.lines low)

  pub look_copies : (look_to (copy_at s c) (top_of w s.opening)).copies ≡ copies_of s c
  look_copies = all_seen.copies

  pub look_victim : (look_to (copy_at s c) (top_of w s.opening)).line ≡ victim_of s c
  look_victim = all_seen.line

-- the line of a call that does not is the same for any victim
pub line_unseen : (w : Which) (o : Opening) (k : Slot) (u v : ℕ) → looks_over w o ≡ false → the_line w k u ≡ the_line w k v
line_unseen (NamedLine l) o k u v e = refl
line_unseen OfAsked o k u v e = refl
line_unseen OfAnswered o k u v e = refl
line_unseen Nothing o k u v e = refl
line_unseen OfVictim o k u v e = never e

-- it finds nothing
pub look_none : (f : Copies) (w : Which) (o : Opening) → looks_over w o ≡ false → (look_to f (top_of w o)).copies ≡ 0
unfolding look_to
look_none f w o e = rw e

-- where a core may hold a copy of each line, there is room for one of a line that is not held, however many are counted below the capacity
room_for : (h : Bool) (cap i j : ℕ) → i < cap → (h ≡ false → j < cap) → both (fails h) (leb cap i) ≡ both (fails h) (leb cap j)
room_for true cap i j a b = refl
room_for false cap i j a b = rw (lt-leb cap i a, lt-leb cap j (b refl))

-- what it makes of the pieces is the same for any number of copies; a receive where both leave room
module _ (n : ℕ) (k : Core) (x : Copy) (m : ManagerLine) (i j : ℕ) (o : Opening) (few : i < o.cap) (fits : o.lines ≤ o.cap → is_held x ≡ false → j < o.cap) where
  abbrev p : Pieces
  p = pieces n k x m i

  abbrev q : Pieces
  q = pieces n k x m j

  load_same : (v : Copy) (c l : ℕ) → load_table v c l p ≡ load_table v c l q
  unfolding load_table load_owned
  load_same NoCopy c l = refl
  load_same (CopyShared w r) c l = refl
  load_same (CopyOwned true w r) c l = refl
  load_same (CopyOwned false w r) c l = refl

  store_same : (v : Copy) (c l : ℕ) → store_table v c l p ≡ store_table v c l q
  unfolding store_table
  store_same NoCopy c l = refl
  store_same (CopyShared w r) c l = refl
  store_same (CopyOwned d w r) c l = refl

  evict_same : (a : Name) (v : Copy) → evict_table a v p ≡ evict_table a v q
  unfolding evict_table
  evict_same a NoCopy = refl
  evict_same a (CopyShared w r) = refl
  evict_same a (CopyOwned d w r) = refl

  lease_same : (t : Bool) (l : ℕ) (w r : Stamp) → serve_load t l w r p ≡ serve_load t l w r q
  unfolding serve_load
  lease_same true l w r = refl
  lease_same false l w r = refl

  asked_same : (v : Manager) (a : Want) (c l : ℕ) (t : Stamp) (h : Option Stamp) → serve_asked v a c l t h p o ≡ serve_asked v a c l t h q o
  unfolding serve_asked
  asked_same (Owned b) a c l t h = refl
  asked_same (Shared w r) WantLoad c l t h = lease_same (same_version h w) l w (leased_to r t o.lease)
  asked_same (Shared w r) WantStore c l t h = refl

  serve_same : (v : Slot) (c : ℕ) → serve_table v c p o ≡ serve_table v c q o
  unfolding serve_table
  serve_same Empty c = refl
  serve_same (Asked a l t h) c = asked_same m.manager a c l t h
  serve_same (Answered g l w r) c = refl

  renew_same : (v : Copy) (r : Stamp) → receive_renew v r p ≡ receive_renew v r q
  unfolding receive_renew
  renew_same NoCopy r = refl
  renew_same (CopyShared w b) r = refl
  renew_same (CopyOwned d w b) r = refl

  yield_same : (v : Copy) → yield_table v p ≡ yield_table v q
  unfolding yield_table
  yield_same NoCopy = refl
  yield_same (CopyShared w r) = refl
  yield_same (CopyOwned d w r) = refl

  take_same : (v : Option Flight) → take_table v p ≡ take_table v q
  unfolding take_table
  take_same None = refl
  take_same (Some f) = refl

  grant_same : (g : Grant) (w r : Stamp) → receive_grant g w r p ≡ receive_grant g w r q
  unfolding receive_grant
  grant_same GrantShare w r = refl
  grant_same GrantOwn w r = refl
  grant_same GrantRenew w r = renew_same x r

  receive_same : (v : Slot) → receive_table v p ≡ receive_table v q
  unfolding receive_table
  receive_same Empty = refl
  receive_same (Asked a l t h) = refl
  receive_same (Answered g l w r) = grant_same g w r

  pub effect_unseen : (call : Call) → looks_over (about call).line o ≡ false → effect_of call p o ≡ effect_of call q o
  unfolding effect_of table_of state_refusal state_rules fence_table advance_table
  effect_unseen (Load c l) e = rw (load_same x c l)
  effect_unseen (Store g c l) e = rw (store_same x c l)
  effect_unseen (Fence c) e = refl
  effect_unseen (Evict c l) e = rw (evict_same _ x)
  effect_unseen (Drop c l) e = rw (evict_same _ x)
  effect_unseen (WriteBack c l) e = rw (evict_same _ x)
  effect_unseen (Advance c by) e = refl
  effect_unseen (Serve c) e = rw (serve_same k.slot c)
  effect_unseen (Receive c) e = rw (receive_same k.slot, room_for (is_held x) o.cap i j few (fits (ltb-false o.cap o.lines e)))
  effect_unseen (Yield l) e = rw (yield_same x)
  effect_unseen (Take l) e = rw (take_same m.writeback)
  effect_unseen (Victim c) e = never e
