-- The reference points W1 to W12 of 01, one row each (a point that names two leases has two). 02, Six: "W1 to W4 read as stores to lines not yet
-- dirty"; the same four of a dirty line stand beside them.
--
-- What a point does not name is set so that a step which looks at it or changes it shows: where nothing is asked, the slot is in use for another
-- line, and the manager's line has a recall and a writeback; a load finds sts later than all the rest.
use Rattle.std.specs.Prelude.{ℕ, None as NothingHeld, Some as Version, List, [], ◌∷◌}
use Rattle.protocol.specs.{Stamps.stamp, Step.{refused, done}, declared.{Copy.{Copy, TheVariants.None as NoCopy}, ManagerLine.ManagerLine}}
use Rattle.protocol.specs.declared.Pieces.{Pieces}
use Rattle.protocol.specs.declared.{Name.TheVariants.Share as share, Want.TheVariants.Load as WantLoad, Grant.TheVariants.Share as GrantShare}
use Rattle.protocol.specs.declared.Recall.TheVariants.{None as NoRecall}
use Rattle.protocol.specs.declared.Call.TheVariants.{Load, Serve}
use Rattle.reference_points.specs.Rows.{core, asked, answered, asked_elsewhere, shared_copy, clean_copy, dirty_copy, shared_line, owned_line, pieces}
use Rattle.reference_points.specs.{Rows.{busy, greatest, unmoved, Row, row, AllHold}, Steps.{asking, loading_over, storing, fencing_over, with_bytes}}

-- a store to an owned line: lts, sts and the copy before it, and its ts
abbrev pub store_row : ℕ → ℕ → Copy → ℕ → Row
store_row lts sts x ts = storing asked_elsewhere (busy (owned_line 1 NoRecall)) lts sts x ts

-- a load that commits: the line at the manager, lts and the copy before it, its ts, and the copy after it
abbrev pub load_row : ManagerLine → ℕ → Copy → ℕ → Copy → Row
load_row m lts x ts y = loading_over 40 asked_elsewhere (busy m) lts x ts y

-- a load asked at `lts` by a core that holds nothing, of a shared line with wts 0 and this rts; and the same when it is served
abbrev pub load_asked : ℕ → ℕ → Pieces
load_asked lts rts = pieces (core lts 0 (asked WantLoad lts NothingHeld)) NoCopy (shared_line 0 rts)

abbrev pub load_served : ℕ → ℕ → Pieces
load_served lts rts = pieces (core lts 0 (answered GrantShare 0 rts)) NoCopy (shared_line 0 rts)

abbrev pub points : List Row
points =
    -- W1 store: lts 0, sts 0, rts 0: ts 1; dirty: 0
    store_row 0 0 (clean_copy 0 0) 1
    ∷ store_row 0 0 (dirty_copy 0 0) 0
    -- W2 rts 10: 11; dirty: 10
    ∷ store_row 0 0 (clean_copy 0 10) 11
    ∷ store_row 0 0 (dirty_copy 0 10) 10
    -- W3 lts 20, sts 15, rts 10: 20; dirty: 20
    ∷ store_row 20 15 (clean_copy 0 10) 20
    ∷ store_row 20 15 (dirty_copy 0 10) 20
    -- W4 lts 0, sts 30, rts 10: 30; dirty: 30
    ∷ store_row 0 30 (clean_copy 0 10) 30
    ∷ store_row 0 30 (dirty_copy 0 10) 30
    -- Shared wts 4, rts 9: W5 lts 9: ts 9
    ∷ load_row (shared_line 4 9) 9 (shared_copy 4 9) 9 (shared_copy 4 9)
    -- W6 lts 10: ask
    ∷ asking 10 (Load 1 2) WantLoad (shared_copy 4 9) (Version (stamp 4)) (busy (shared_line 4 9))
    -- W7 lts 2: ts 4
    ∷ load_row (shared_line 4 9) 2 (shared_copy 4 9) 4 (shared_copy 4 9)
    -- W8 dirty, wts and rts 11, lts 0: ts 0
    ∷ load_row (owned_line 1 NoRecall) 0 (dirty_copy 11 11) 0 (dirty_copy 11 11)
    -- W9 owned, not dirty, wts 3, rts 7, lts 12: ts 12, rts 12
    ∷ load_row (owned_line 1 NoRecall) 12 (clean_copy 3 7) 12 (clean_copy 3 12)
    -- W10 serve, asked lts 12, lease 10, rts 1: rts 22
    ∷ row 10 (load_asked 12 1) (Serve 1) (done share) (load_served 12 22) with_bytes
    -- W11 asked lts 4,294,967,290, rts 0: lease 5 gives 4,294,967,295
    ∷ row 5 (load_asked 4294967290 0) (Serve 1) (done share) (load_served 4294967290 greatest) with_bytes
    -- W11 lease 6 refuses 27
    ∷ row 6 (load_asked 4294967290 0) (Serve 1) (refused 27) (load_asked 4294967290 0) unmoved
    -- W12 fence, lts 0, sts 6: ts 6
    ∷ fencing_over (shared_copy 4 9) (busy (shared_line 4 9)) asked_elsewhere 0 6 6
    ∷ []

-- every reference point holds
abbrev pub PointsTheorem : Type 0
PointsTheorem = AllHold points
