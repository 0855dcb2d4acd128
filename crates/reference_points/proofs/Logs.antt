-- The logs: whether each obeys TSO is decided, and antt computes the decision.
use Prim.Native.Nat.{ℕ}
use mathlib.Core.Logic.Dec
use mathlib.Core.{Path.refl, Bool.{true, false}}
use native.Mathlib.Decide.{ℕ_discrete, dec_lt}
use Rattle.protocol.specs.{Step.{Op, load, store, fence}, Run.Commit, Order.{TsoKeeps, MaySee, TSO}}
use Rattle.reference_points.specs.Logs.{Log, obeying, disobeying, TsoTheorem, NotTsoTheorem}
use Rattle.reference_points.proofs.{Each.each, Decides.{holds, from_yes, from_no, dec_or}, Deciding.{before, obeys, deciding}}

keeps : (a b : Op ℕ) → Dec (TsoKeeps a b)
keeps (load l x) b = yes tt
keeps fence b = yes tt
keeps (store l x) (load m y) = no (λ h. h)
keeps (store l x) (store m y) = yes tt
keeps (store l x) fence = yes tt

sees : (e s : Commit ℕ) → Dec (MaySee e s)
sees e s = dec_or (before s e) (Dec.and (ℕ_discrete s.core e.core) (dec_lt s.place.0 e.place.0))

tso : (h : Log) → Dec (TSO 0 h)
tso = obeys keeps sees

pub tso_theorem : TsoTheorem
unfolding deciding keeps sees tso
tso_theorem = each (λ h. holds (tso h)) (λ h. true) (λ h. from_yes (tso h)) obeying refl

pub not_tso_theorem : NotTsoTheorem
unfolding deciding keeps sees tso
not_tso_theorem = each (λ h. holds (tso h)) (λ h. false) (λ h. from_no (tso h)) disobeying refl
