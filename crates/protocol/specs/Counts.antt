-- What the records of a run count as: the end line's counts (01, "Journal and driver") and the tally's (02, One). Each record is of one class,
-- by its call and its answer; what is counted is the records of a class.
use Rattle.std.specs.Prelude.{ℕ, ◌+◌}
use mathlib.Core.{Bool.{Bool, true, false}, List.List}
use lib.{Dec.eqb, ListN.length}
use Rattle.protocol.specs.{Pick.{pick, how_many}, Step.{Op, load, store, fence, Reply, refused, done, commit}, Run.Record, declared.Counts.Counts}
use Rattle.protocol.specs.declared.Call.{Call, TheVariants.{Load, Store, Fence, Evict, Drop, Writeback as WriteBack, Advance}}
use Rattle.protocol.specs.declared.Call.TheVariants.{Serve, Receive, Yield, Take, Victim}
use Rattle.protocol.specs.declared.Name.{Name, TheVariants.{Open, Ask, Recall, Share, Renew, Own, Drop as Dropped, Evict as Evicted}}
use Rattle.protocol.specs.declared.Name.TheVariants.{Writeback as WrittenBack, Advance as Advanced, Yield as Yielded, Take as Taken, Victim as Chosen}
use Rattle.protocol.specs.declared.Class.{Class, TheVariants.{Load as ALoad, Store as AStore, Fence as AFence, Ask as AnAsk, Share as AShare}}
use Rattle.protocol.specs.declared.Class.TheVariants.{Renew as ARenew, Own as AnOwn, Refused as ARefusal, Other}

-- ---- the class of a record

-- "serve (core with an asked slot)"
abbrev pub is_serve : Call → Bool
is_serve (Load c l) = false
is_serve (Store g c l) = false
is_serve (Fence c) = false
is_serve (Evict c l) = false
is_serve (Drop c l) = false
is_serve (WriteBack c l) = false
is_serve (Advance c by) = false
is_serve (Serve c) = true
is_serve (Receive c) = false
is_serve (Yield l) = false
is_serve (Take l) = false
is_serve (Victim c) = false

-- "those commits"
abbrev pub commit_class : {A : Type 0} → Op A → Class
commit_class (load l b) = ALoad
commit_class (store l b) = AStore
commit_class fence = AFence

-- "The first four count those commits and answers, the last three the serve answers": share, renew and own are counted where a serve answers
-- them, and not where a receive does
abbrev pub name_class : Bool → Name → Class
name_class serves Open = Other
name_class serves Ask = AnAsk
name_class serves Recall = Other
name_class serves Share = pick serves AShare Other
name_class serves Renew = pick serves ARenew Other
name_class serves Own = pick serves AnOwn Other
name_class serves Dropped = Other
name_class serves Evicted = Other
name_class serves WrittenBack = Other
name_class serves Advanced = Other
name_class serves Yielded = Other
name_class serves Taken = Other
name_class serves (Chosen l) = Other

-- THE CLASS of a call with its answer
abbrev pub class_of : Call → Reply → Class
class_of call (refused n) = ARefusal
class_of call (done d) = name_class (is_serve call) d
class_of call (commit c t o) = commit_class o

-- the classes by number, and whether two are the same
abbrev pub class_number : Class → ℕ
class_number ALoad = 0
class_number AStore = 1
class_number AFence = 2
class_number AnAsk = 3
class_number AShare = 4
class_number ARenew = 5
class_number AnOwn = 6
class_number ARefusal = 7
class_number Other = 8

abbrev pub same_class : Class → Class → Bool
same_class a b = eqb (class_number a) (class_number b)

-- ---- counting

-- whether a record is of a class, and how many of a list are
abbrev pub is_of : Class → Record → Bool
is_of k r = same_class (class_of r.entry.call r.reply) k

abbrev pub number : Class → List Record → ℕ
number k rs = how_many (is_of k) rs

-- the counts of n step lines, of which so many are of each class
abbrev pub counts : ℕ → (Class → ℕ) → Counts
counts n of =
    record {
      steps = n;
      commits = of ALoad + of AStore + of AFence;
      refusals = of ARefusal;
      loads = of ALoad;
      stores = of AStore;
      fences = of AFence;
      asks = of AnAsk;
      shares = of AShare;
      renews = of ARenew;
      owns = of AnOwn;
    }

-- no step line
abbrev pub nothing_met : Counts
nothing_met = counts 0 (λ (k : Class). 0)

-- THE COUNTS of a list of records: "each equals the number of such records"
abbrev pub tally : List Record → Counts
tally rs = counts (length rs) (λ (k : Class). number k rs)

-- one record of a class: n is 1 where it is a step line's, 0 where it is the first line's
abbrev pub one_of : ℕ → Class → Counts
one_of n a = counts n (λ (k : Class). pick (same_class a k) 1 0)

-- what a call with its answer adds
abbrev pub counts_of : Call → Reply → Counts
counts_of call r = one_of 1 (class_of call r)

-- count by count
abbrev pub sum : Counts → Counts → Counts
sum a b =
    record {
      steps = a.steps + b.steps;
      commits = a.commits + b.commits;
      refusals = a.refusals + b.refusals;
      loads = a.loads + b.loads;
      stores = a.stores + b.stores;
      fences = a.fences + b.fences;
      asks = a.asks + b.asks;
      shares = a.shares + b.shares;
      renews = a.renews + b.renews;
      owns = a.owns + b.owns;
    }
