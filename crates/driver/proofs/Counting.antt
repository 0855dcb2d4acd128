-- The counts of a run: the counts of its records one after the other, and how great they can be.
use Prim.Native.Nat.{ℕ, suc, ◌+◌, ◌≤◌}
use mathlib.Core.{Path.{◌≡◌, refl, sym, ◌∙◌, ap, subst}, Bool.true, List.{List, [], ◌∷◌, ◌++◌}}
use native.Mathlib.{Nat.{add_assoc, add-zero, zero-add}, Omega.arith}
use lib.{Dec.leb, ListN.length}
use borrow.Author.Tests.{leb-true, le-leb}
use Rattle.protocol.specs.{Pick.{every, how_many}, Buffers.Bytes, Step.{meaning}, Run.Record, Counts.{class_of, nothing_met, tally, one_of, counts_of, sum}}
use Rattle.protocol.specs.declared.{Call.Call, Answer.{Answer, TheVariants.{Refused, Done, Commit}}}
use Rattle.protocol.specs.declared.Kind.TheVariants.{Load as OfLoad, Store as OfStore, Fence as OfFence}
use Rattle.protocol.specs.declared.{Counts.Counts, Class.{Class, TheVariants.{Load, Store, Fence, Ask, Share, Renew, Own, Refused as Refusal, Other}}}
use Rattle.protocol.proofs.Tests.{both_true}
use Rattle.driver.specs.Play.{few}

-- ---- sums

pub plus_assoc : (a b c : Counts) → sum (sum a b) c ≡ sum a (sum b c)
plus_assoc a b c = simp add_assoc

pub plus_none : (a : Counts) → sum a nothing_met ≡ a
plus_none a = simp add-zero

pub none_plus : (a : Counts) → sum nothing_met a ≡ a
none_plus a = simp zero-add

-- a record more
tally_more : (r : Record) (rs : List Record) → tally (r ∷ rs) ≡ sum (counts_of r.entry.call r.reply) (tally rs)
unfolding how_many
tally_more r rs =
    let e : (tally (r ∷ rs)).commits ≡ (counts_of r.entry.call r.reply).commits + (tally rs).commits = omega arith in
    let n : suc (length rs) ≡ 1 + length rs = omega arith in
    rw (e, n)

pub tally_append : (rs ts : List Record) → tally (rs ++ ts) ≡ sum (tally rs) (tally ts)
unfolding how_many
tally_append [] ts = sym (none_plus (tally ts))
tally_append (r ∷ rs) ts =
    let k = counts_of r.entry.call r.reply in
    tally_more r (rs ++ ts) ∙ ap (sum k) (tally_append rs ts) ∙ sym (plus_assoc k (tally rs) (tally ts))
    ∙ ap (λ (x : Counts). sum x (tally ts)) (sym (tally_more r rs))

pub tally_one : (r : Record) → tally (r ∷ []) ≡ counts_of r.entry.call r.reply
unfolding how_many
tally_one r = tally_more r [] ∙ plus_none (counts_of r.entry.call r.reply)

-- an answer's bytes are not counted
pub same_counts : (call : Call) (a : Answer) (bs cs : Bytes) → counts_of call (meaning a bs) ≡ counts_of call (meaning a cs)
unfolding meaning
same_counts call (Refused n) bs cs = refl
same_counts call (Done d) bs cs = refl
same_counts call (Commit c t (OfLoad l)) bs cs = refl
same_counts call (Commit c t (OfStore l)) bs cs = refl
same_counts call (Commit c t OfFence) bs cs = refl

-- ---- how great they are

-- each count is at most n
pub record Each (k : Counts) (n : ℕ) : Type 0 where
  pub steps : k.steps ≤ n
  pub commits : k.commits ≤ n
  pub refusals : k.refusals ≤ n
  pub loads : k.loads ≤ n
  pub stores : k.stores ≤ n
  pub fences : k.fences ≤ n
  pub asks : k.asks ≤ n
  pub shares : k.shares ≤ n
  pub renews : k.renews ≤ n
  pub owns : k.owns ≤ n

pub each_few : (k : Counts) (n : ℕ) → few k n ≡ true → Each k n
unfolding every
each_few k n e =
    let a = both_true (leb k.steps n) _ e in
    let b = both_true (leb k.commits n) _ a.1 in
    let c = both_true (leb k.refusals n) _ b.1 in
    let d = both_true (leb k.loads n) _ c.1 in
    let f = both_true (leb k.stores n) _ d.1 in
    let g = both_true (leb k.fences n) _ f.1 in
    let h = both_true (leb k.asks n) _ g.1 in
    let i = both_true (leb k.shares n) _ h.1 in
    let j = both_true (leb k.renews n) _ i.1 in
    let l = both_true (leb k.owns n) _ j.1 in
    record {
      steps = leb-true _ _ a.0;
      commits = leb-true _ _ b.0;
      refusals = leb-true _ _ c.0;
      loads = leb-true _ _ d.0;
      stores = leb-true _ _ f.0;
      fences = leb-true _ _ g.0;
      asks = leb-true _ _ h.0;
      shares = leb-true _ _ i.0;
      renews = leb-true _ _ j.0;
      owns = leb-true _ _ l.0;
    }

few_each : (k : Counts) (n : ℕ) → Each k n → few k n ≡ true
unfolding every
few_each k n a =
    rw (
      le-leb _ _ a.steps,
      le-leb _ _ a.commits,
      le-leb _ _ a.refusals,
      le-leb _ _ a.loads,
      le-leb _ _ a.stores,
      le-leb _ _ a.fences,
      le-leb _ _ a.asks,
      le-leb _ _ a.shares,
      le-leb _ _ a.renews,
      le-leb _ _ a.owns,
    )

pub few_later : (k : Counts) (n m : ℕ) → few k n ≡ true → n ≤ m → few k m ≡ true
few_later k n m e h = let a = each_few k n e in few_each k m (omega arith)

pub few_sum : (a b : Counts) (n m l : ℕ) → few a n ≡ true → few b m ≡ true → n + m ≤ l → few (sum a b) l ≡ true
few_sum a b n m l e f h = let x = each_few a n e in let y = each_few b m f in few_each (sum a b) l (omega arith)

-- nothing is few
pub few_none : (n : ℕ) → few nothing_met n ≡ true
unfolding every
few_none n = few_later nothing_met 0 n refl (omega arith)

-- a record counts once at most, in each
few_one : (k : Class) → few (one_of 1 k) 1 ≡ true
unfolding every
few_one Load = refl
few_one Store = refl
few_one Fence = refl
few_one Ask = refl
few_one Share = refl
few_one Renew = refl
few_one Own = refl
few_one Refusal = refl
few_one Other = refl

-- no count is above the number of records
pub few_tally : (rs : List Record) → few (tally rs) (length rs) ≡ true
unfolding every how_many
few_tally [] = refl
few_tally (r ∷ rs) =
    let k = class_of r.entry.call r.reply in
    subst (λ (x : Counts). few x (suc (length rs)) ≡ true) (sym (tally_more r rs))
    (few_sum (one_of 1 k) (tally rs) 1 (length rs) (suc (length rs)) (few_one k) (few_tally rs) (omega arith))
