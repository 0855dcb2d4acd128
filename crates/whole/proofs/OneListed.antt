-- Each journal and buffer has exactly one listing in the buffer. Assumes nothing.
use mathlib.Core.{Path.{◌≡◌, refl, ◌∙◌, ap, ap₂}, List.List}
use lib.{Dec.leb, ListN.length}
use Rattle.protocol.specs.{Pick.pick, Buffers.Bytes}
use Rattle.spelling.specs.{One.One, Over.over}
use Rattle.playing.specs.{Calls.joined, Pieces.{Pieces, opens as opens_pieces, fails as fails_pieces}}
use Rattle.playing.proofs.OneListing.{pieces_same, Opened, one, none, either}
use Rattle.whole.specs.{Whole.{fitting, PutTexts, Lists}, Theorems.{Listed, OneListedTheorem}}
use Rattle.std.specs.Prelude.{ℕ, Option, Some, None}

-- an answer and a buffer
abbrev listed : Option ℕ → Bytes → Listed
listed a b = record { answer = a; buffer = b }

-- what putting texts into a buffer leaves
abbrev listed_in : Bytes → List Bytes → Listed
listed_in old ts = listed (pick (leb (length (joined ts)) (length old)) (Some (length (joined ts))) None) (over old 0 (fitting (length old) ts))

put_left : {old : Bytes} {ts : List Bytes} (x : Listed) → PutTexts old ts x.buffer x.answer → x ≡ listed_in old ts
put_left x p = ap₂ (λ (a : Option ℕ) (b : Bytes). listed a b) p.answer p.bytes

pub one_listed_theorem : OneListedTheorem
one_listed_theorem j old = go (either j)
  where
    found : {ts : List Bytes} → Pieces j ts → One (λ (x : Listed). Lists j old x.buffer x.answer)
    found {ts} x =
        record {
          answer = listed_in old ts;
          holds = record { texts = ts; listing = x; put = record { answer = refl; bytes = refl } };
          only = λ b y. put_left b y.put ∙ ap (listed_in old) (pieces_same y.listing x);
        }

    go : Opened j → One (λ (x : Listed). Lists j old x.buffer x.answer)
    go (one x) = found (opens_pieces x)
    go (none n) = found (fails_pieces n)
