-- The commits that a listing prints, read off its text, and their sorted order: demand 3, and 02's Seven, of a journal's listing.
--
-- `Prints` reads a text line by line. `OnePrintedTheorem` claims that it finds one list of commits at most, and `PrintedTheorem` that in the
-- listing of a journal it finds the commits of the journal's run.
use Rattle.std.specs.Prelude.{ℕ}
use mathlib.Core.{Path.◌≡◌, List.{List, [], ◌∷◌, ◌++◌}}
use Rattle.std.specs.Prelude.{replicate}
use Rattle.protocol.specs.{Buffers.Bytes, Run.{Entry, Commit}, Order.{commits_of, OneTsoOrder}, Sequential.SequentialIfFenced}
use Rattle.protocol.specs.declared.{Opening.Opening as Sizes, Counts.Counts, Name.Name, Given.TheVariants.Bytes as InBytes}
use Rattle.listing.specs.Record.{done_text, refused_text, commit_text, end_text}
use Rattle.driver.specs.Listing.{Ending}
use Rattle.playing.specs.Listing.{Opens, Listing}

-- the line of a commit, as `n=4 commit=store core=0 line=0 ts=1 data=07`
abbrev pub commit_line : Commit Bytes → Bytes
commit_line e = commit_text InBytes e.place.0 e.core e.ts.0 e.op

-- a line of a listing that is no commit's
pub data OtherLine : Bytes → Type 0 where
  a_done : (n : ℕ) (d : Name) → OtherLine (done_text n d)
  a_refusal : (n r : ℕ) → OtherLine (refused_text n r)
  an_end : (k : Counts) → OtherLine (end_text k)

-- the commits that a text prints, in the order of its lines
pub data Prints : Bytes → List (Commit Bytes) → Type 0 where
  no_line : Prints [] []
  a_commit : {e : Commit Bytes} {t : Bytes} {H : List (Commit Bytes)} → Prints t H → Prints (commit_line e ++ t) (e ∷ H)
  another : {line t : Bytes} {H : List (Commit Bytes)} → OtherLine line → Prints t H → Prints (line ++ t) H

-- a text prints one list of commits at most
abbrev pub OnePrintedTheorem : Type 0
OnePrintedTheorem = (t : Bytes) (H J : List (Commit Bytes)) → Prints t H → Prints t J → H ≡ J

-- the listing of a journal that opens an engine prints the commits of its run
abbrev pub PrintedTheorem : Type 0
PrintedTheorem =
    (journal text : Bytes) (o : Sizes) (gs : List Entry) (e : Ending) → Opens journal o gs e → Listing journal text → Prints text (commits_of o gs)

-- a claim about zeros of the width and a list of commits, for every journal that opens an engine and the commits that its listing prints
abbrev pub OfEveryListing : (Bytes → List (Commit Bytes) → Type 0) → Type 0
OfEveryListing Claim =
    (journal text : Bytes) (o : Sizes) (gs : List Entry) (e : Ending) → Opens journal o gs e → Listing journal text
    → (H : List (Commit Bytes)) → Prints text H → Claim (replicate o.width 0) H

-- demand 3: the commits that a listing prints have one sorted order, and it obeys TSO
abbrev pub ListingOrderTheorem : Type 0
ListingOrderTheorem = OfEveryListing OneTsoOrder

-- Seven: where each core has a fence between a store and its next load, the sorted order is sequentially consistent
abbrev pub SequentialListingTheorem : Type 0
SequentialListingTheorem = OfEveryListing SequentialIfFenced
