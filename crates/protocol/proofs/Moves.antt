-- What a move makes of the lines of bytes in the two buffers: the line that it writes, and every other line.
use Prim.Native.Nat.{ℕ, ◌+◌, ◌*◌, ◌≤◌, ◌<◌}
use mathlib.Core.{Path.{◌≡◌, refl}, Bool.true}
use native.Mathlib.Omega.{arith}
use lib.ListN.{length}
use borrow.Author.Tests.{eqb-true}
use Rattle.spelling.{specs.Over.over, proofs.OverLaws.{over_length, over_part}}
use Rattle.protocol.specs.Buffers.{Bytes, There, part, copy_bytes, manager_bytes, writeback_bytes, answer_bytes, given_fits, moved_private, moved_shared}
use Rattle.protocol.specs.Machine.{Machine}
use Rattle.protocol.specs.declared.Opening.{Opening}
use Rattle.protocol.specs.declared.Move.{Move}
use Rattle.protocol.specs.declared.Move.TheVariants.{Still, Store as MoveStore, Answer as MoveAnswer, Receive as MoveReceive, Writeback as MoveWriteback}
use Rattle.protocol.specs.declared.Move.TheVariants.{Take as MoveTake}
use Rattle.protocol.proofs.{Refusals.Fit, Bytes.{row_le, row_other, length_part, grid_row, grid_column}}

-- the move leaves the answer to the core
abbrev pub AnswerStays : Move → Type 0
AnswerStays Still = Unit {0}
AnswerStays MoveStore = Unit {0}
AnswerStays MoveAnswer = ⊥
AnswerStays MoveReceive = Unit {0}
AnswerStays MoveWriteback = Unit {0}
AnswerStays MoveTake = Unit {0}

-- the move for core c and line l writes row j of the shared buffer
abbrev WritesShared : Opening → ℕ → ℕ → Move → ℕ → Type 0
WritesShared o c l Still j = ⊥
WritesShared o c l MoveStore j = ⊥
WritesShared o c l MoveAnswer j = j ≡ 2 * o.lines + c
WritesShared o c l MoveReceive j = ⊥
WritesShared o c l MoveWriteback j = j ≡ o.lines + l
WritesShared o c l MoveTake j = j ≡ l

-- a move for core c and line l, with the bytes given to a store
module _ (m : Machine) (c l : ℕ) (given : Bytes) where
  abbrev o : Opening
  o = m.state.opening

  abbrev p : Bytes
  p = m.private

  abbrev q : Bytes
  q = m.shared

  -- the bytes at the four spots that it may touch
  abbrev pub manager_after : Move → Bytes
  manager_after Still = manager_bytes o q l
  manager_after MoveStore = manager_bytes o q l
  manager_after MoveAnswer = manager_bytes o q l
  manager_after MoveReceive = manager_bytes o q l
  manager_after MoveWriteback = manager_bytes o q l
  manager_after MoveTake = writeback_bytes o q l

  abbrev pub writeback_after : Move → Bytes
  writeback_after Still = writeback_bytes o q l
  writeback_after MoveStore = writeback_bytes o q l
  writeback_after MoveAnswer = writeback_bytes o q l
  writeback_after MoveReceive = writeback_bytes o q l
  writeback_after MoveWriteback = copy_bytes o p c l
  writeback_after MoveTake = writeback_bytes o q l

  abbrev pub copy_after : Move → Bytes
  copy_after Still = copy_bytes o p c l
  copy_after MoveStore = given
  copy_after MoveAnswer = copy_bytes o p c l
  copy_after MoveReceive = answer_bytes o q c
  copy_after MoveWriteback = copy_bytes o p c l
  copy_after MoveTake = copy_bytes o p c l

  abbrev pub answer_after : Move → Bytes
  answer_after Still = answer_bytes o q c
  answer_after MoveStore = answer_bytes o q c
  answer_after MoveAnswer = manager_bytes o q l
  answer_after MoveReceive = answer_bytes o q c
  answer_after MoveWriteback = answer_bytes o q c
  answer_after MoveTake = answer_bytes o q c

  module _ (f : Fit m) (at : There o c l) where
    abbrev hc : c < o.cores
    hc = at.core

    abbrev hl : l < o.lines
    hl = at.line

    -- a row of the shared buffer, and a copy's row of the private one, lie inside
    pub shared_in : (j : ℕ) → j < 2 * o.lines + o.cores → j * o.width + o.width ≤ length q
    shared_in j h = omega (arith, f.n_shared, row_le o.width j (2 * o.lines + o.cores) h)

    pub cell_in : c * o.lines + l < o.cores * o.lines
    cell_in = omega (arith, row_le o.lines c o.cores hc)

    pub private_in : (c * o.lines + l) * o.width + o.width ≤ length p
    private_in = omega (arith, f.n_private, row_le o.width (c * o.lines + l) (o.cores * o.lines) cell_in)

    pub length_row : (j : ℕ) → j < 2 * o.lines + o.cores → length (part q (j * o.width) o.width) ≡ o.width
    length_row j h = length_part q (j * o.width) o.width (shared_in j h)

    pub length_copy : length (copy_bytes o p c l) ≡ o.width
    length_copy = length_part p ((c * o.lines + l) * o.width) o.width private_in

    -- a row that the move does not write
    pub shared_other : (v : Move) (j : ℕ) → (WritesShared o c l v j → ⊥) → part (moved_shared v o c l p q) (j * o.width) o.width ≡ part q (j * o.width) o.width
    unfolding moved_shared
    shared_other Still j n = refl
    shared_other MoveStore j n = refl
    shared_other MoveAnswer j n =
        row_other o.width (2 * o.lines + c) j q (manager_bytes o q l) n (length_row l (omega arith)) (shared_in (2 * o.lines + c) (omega arith))
    shared_other MoveReceive j n = refl
    shared_other MoveWriteback j n =
        row_other o.width (o.lines + l) j q (copy_bytes o p c l) n length_copy (shared_in (o.lines + l) (omega arith))
    shared_other MoveTake j n =
        row_other o.width l j q (writeback_bytes o q l) n (length_row (o.lines + l) (omega arith)) (shared_in l (omega arith))

    -- a row of the shared buffer that the move writes
    pub shared_same : (i : ℕ) (b : Bytes) → i < 2 * o.lines + o.cores → length b ≡ o.width → part (over q (i * o.width) b) (i * o.width) o.width ≡ b
    shared_same i b h e = over_part q (i * o.width) b (omega (arith, shared_in i h)) o.width e

    -- another core's or line's copy, or this one
    pub private_other : (v : Move) → given_fits v o.width (length given) ≡ true → (c' l' : ℕ) → l' < o.lines → (c' ≡ c → l' ≡ l → ⊥)
        → copy_bytes o (moved_private v o c l given p q) c' l' ≡ copy_bytes o p c' l'
    unfolding moved_private
    private_other Still g c' l' h n = refl
    private_other MoveStore g c' l' h n =
        row_other o.width (c * o.lines + l) (c' * o.lines + l') p given
        (λ e. n (grid_row o.lines c' l' c l h hl e) (grid_column o.lines c' l' c l h hl e)) (eqb-true _ _ g) private_in
    private_other MoveAnswer g c' l' h n = refl
    private_other MoveReceive g c' l' h n =
        row_other o.width (c * o.lines + l) (c' * o.lines + l') p (answer_bytes o q c)
        (λ e. n (grid_row o.lines c' l' c l h hl e) (grid_column o.lines c' l' c l h hl e)) (length_row (2 * o.lines + c) (omega arith)) private_in
    private_other MoveWriteback g c' l' h n = refl
    private_other MoveTake g c' l' h n = refl

    pub private_same : (b : Bytes) → length b ≡ o.width
        → part (over p ((c * o.lines + l) * o.width) b) ((c * o.lines + l) * o.width) o.width ≡ b
    private_same b e = over_part p ((c * o.lines + l) * o.width) b (omega (arith, private_in)) o.width e

    -- the four spots
    pub manager_after_lem : (v : Move) → manager_bytes o (moved_shared v o c l p q) l ≡ manager_after v
    unfolding moved_shared
    manager_after_lem Still = refl
    manager_after_lem MoveStore = refl
    manager_after_lem MoveAnswer = shared_other MoveAnswer l (λ e. omega arith)
    manager_after_lem MoveReceive = refl
    manager_after_lem MoveWriteback = shared_other MoveWriteback l (λ e. omega arith)
    manager_after_lem MoveTake = shared_same l (writeback_bytes o q l) (omega arith) (length_row (o.lines + l) (omega arith))

    pub writeback_after_lem : (v : Move) → writeback_bytes o (moved_shared v o c l p q) l ≡ writeback_after v
    unfolding moved_shared
    writeback_after_lem Still = refl
    writeback_after_lem MoveStore = refl
    writeback_after_lem MoveAnswer = shared_other MoveAnswer (o.lines + l) (λ e. omega arith)
    writeback_after_lem MoveReceive = refl
    writeback_after_lem MoveWriteback = shared_same (o.lines + l) (copy_bytes o p c l) (omega arith) length_copy
    writeback_after_lem MoveTake = shared_other MoveTake (o.lines + l) (λ e. omega arith)

    pub copy_after_lem : (v : Move) → given_fits v o.width (length given) ≡ true → copy_bytes o (moved_private v o c l given p q) c l ≡ copy_after v
    unfolding moved_private
    copy_after_lem Still g = refl
    copy_after_lem MoveStore g = private_same given (eqb-true _ _ g)
    copy_after_lem MoveAnswer g = refl
    copy_after_lem MoveReceive g = private_same (answer_bytes o q c) (length_row (2 * o.lines + c) (omega arith))
    copy_after_lem MoveWriteback g = refl
    copy_after_lem MoveTake g = refl

    pub answer_after_lem : (v : Move) → answer_bytes o (moved_shared v o c l p q) c ≡ answer_after v
    unfolding moved_shared
    answer_after_lem Still = refl
    answer_after_lem MoveStore = refl
    answer_after_lem MoveAnswer = shared_same (2 * o.lines + c) (manager_bytes o q l) (omega arith) (length_row l (omega arith))
    answer_after_lem MoveReceive = refl
    answer_after_lem MoveWriteback = shared_other MoveWriteback (2 * o.lines + c) (λ e. omega arith)
    answer_after_lem MoveTake = shared_other MoveTake (2 * o.lines + c) (λ e. omega arith)

    -- the spots of other lines and cores
    pub manager_other : (v : Move) (l' : ℕ) → l' < o.lines → (l' ≡ l → ⊥) → manager_bytes o (moved_shared v o c l p q) l' ≡ manager_bytes o q l'
    manager_other v l' h n = shared_other v l' (go v)
      where
        go : (v : Move) → WritesShared o c l v l' → ⊥
        go Still e = e
        go MoveStore e = e
        go MoveAnswer e = omega arith
        go MoveReceive e = e
        go MoveWriteback e = omega arith
        go MoveTake e = n e

    pub writeback_other : (v : Move) (l' : ℕ) → l' < o.lines → (l' ≡ l → ⊥) → writeback_bytes o (moved_shared v o c l p q) l' ≡ writeback_bytes o q l'
    writeback_other v l' h n = shared_other v (o.lines + l') (go v)
      where
        go : (v : Move) → WritesShared o c l v (o.lines + l') → ⊥
        go Still e = e
        go MoveStore e = e
        go MoveAnswer e = omega arith
        go MoveReceive e = e
        go MoveWriteback e = n (omega arith)
        go MoveTake e = omega arith

    pub answer_other : (v : Move) (c' : ℕ) → (c' ≡ c → AnswerStays v) → answer_bytes o (moved_shared v o c l p q) c' ≡ answer_bytes o q c'
    answer_other v c' n = shared_other v (2 * o.lines + c') (go v n)
      where
        go : (v : Move) → (c' ≡ c → AnswerStays v) → WritesShared o c l v (2 * o.lines + c') → ⊥
        go Still f e = e
        go MoveStore f e = e
        go MoveAnswer f e = f (omega arith)
        go MoveReceive f e = e
        go MoveWriteback f e = omega arith
        go MoveTake f e = omega arith

    pub length_moved_shared : (v : Move) → length (moved_shared v o c l p q) ≡ length q
    unfolding moved_shared
    length_moved_shared Still = refl
    length_moved_shared MoveStore = refl
    length_moved_shared MoveAnswer =
        over_length q ((2 * o.lines + c) * o.width) (manager_bytes o q l)
        (omega (arith, length_row l (omega arith), shared_in (2 * o.lines + c) (omega arith)))
    length_moved_shared MoveReceive = refl
    length_moved_shared MoveWriteback =
        over_length q ((o.lines + l) * o.width) (copy_bytes o p c l) (omega (arith, length_copy, shared_in (o.lines + l) (omega arith)))
    length_moved_shared MoveTake =
        over_length q (l * o.width) (writeback_bytes o q l) (omega (arith, length_row (o.lines + l) (omega arith), shared_in l (omega arith)))

    pub length_moved_private : (v : Move) → given_fits v o.width (length given) ≡ true → length (moved_private v o c l given p q) ≡ length p
    unfolding moved_private
    length_moved_private Still g = refl
    length_moved_private MoveStore g = over_length p ((c * o.lines + l) * o.width) given (omega (arith, private_in, eqb-true (length given) o.width g))
    length_moved_private MoveAnswer g = refl
    length_moved_private MoveReceive g =
        over_length p ((c * o.lines + l) * o.width) (answer_bytes o q c)
        (omega (arith, private_in, length_row (2 * o.lines + c) (omega arith)))
    length_moved_private MoveWriteback g = refl
    length_moved_private MoveTake g = refl
