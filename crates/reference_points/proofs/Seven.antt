-- What the theorems about fences claim is 02's Seven.
use mathlib.Core.{Path.{◌≡◌, refl, sym}, List.List}
use Rattle.protocol.specs.{Step.{Op, load, store, fence}, Run.Commit, Order.In, Sequential.{StoreThenLoad, FenceBetween, Fenced, SequentialIfFenced}}
use Rattle.protocol.proofs.Order.Sequential.{sequential_theorem}
use Rattle.engine.proofs.History.{sequential_history_theorem}
use Rattle.playing.proofs.Printed.{sequential_listing_theorem}
use Rattle.reference_points.specs.Seven.{HasFences, Seven, SevenTheorem}

module _ {A : Type 0} (zero : A) (H : List (Commit A)) where
  -- the fences of 02 are those of the theorems
  has : HasFences H → Fenced StoreThenLoad H
  has p a b i j n = go a.op b.op refl refl n.later.swaps
    where
      go : (x y : Op A) → a.op ≡ x → b.op ≡ y → StoreThenLoad a.op b.op → (f : Commit A) × In f H × FenceBetween a b f
      go (store l x) (load m y) e d s =
          let w = p a b i j (record {
            line = l;
            stored = x;
            stores = e;
            from = m;
            loaded = y;
            loads = d;
            core = sym n.later.core;
            later = n.later.after;
            next = λ k t c h g r z q. n.first k t (record { core = sym c; after = h; swaps = rw (e, q) tt }) g;
          }) in
          (w.0, w.1, record { core = w.2; fence = w.3; after = w.4; before = w.5 })
      go (load l x) y e d s = absurd (rw e at s)
      go fence y e d s = absurd (rw e at s)
      go (store l x) (store m y) e d s = absurd (rw d at (rw e at s))
      go (store l x) fence e d s = absurd (rw d at (rw e at s))

  plain : SequentialIfFenced zero H → Seven zero H
  plain seven p = let s = seven (has p) in (λ a b i j c h. s.order a b i j c h tt, s.reads)

pub seven_theorem : SevenTheorem
seven_theorem = (
  λ o z gs. plain _ _ (sequential_theorem o z gs),
  λ o r w a es m. plain _ _ (sequential_history_theorem o r w a es m),
  λ journal text o gs e w l H p. plain _ _ (sequential_listing_theorem journal text o gs e w l H p),
)
