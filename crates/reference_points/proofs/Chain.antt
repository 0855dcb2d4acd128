-- The chain is there: each call returns what is expected of it, by computing `step`.
use mathlib.Core.Path.{refl}
use Rattle.protocol.specs.Run.{commits}
use Rattle.engine.specs.History.{none, next, records_of}
use Rattle.reference_points.specs.Chain.{ChainTheorem}
use Rattle.reference_points.proofs.Rows.{calling}

pub chain_theorem : ChainTheorem
unfolding calling commits records_of
chain_theorem =
    record {
      made =
          next (record { reply = refl; machine = refl; span = refl })
          (next (record { reply = refl; machine = refl; span = refl }) (next (record { reply = refl; machine = refl; span = refl }) none));
      commits = refl;
    }
