-- The rows hold: antt computes what `step` gives on each machine, and both sides are the same.
use mathlib.Core.Path.{refl}
use Rattle.protocol.specs.{Pick.{every, first}, Limits.opening_fits, Copies.{held_below, below, victim_below}, Buffers.{moved_private, moved_shared}, Machine.applied}
use Rattle.spelling.specs.Hex.{unhex}
use Rattle.protocol.specs.Refusals.{digit_rules, open_refusal, owners_fit, slots_fit, state_fits, buffers_fit, machine_refusal, call_rules, call_refusal, state_rules}
use Rattle.protocol.specs.{Refusals.{state_refusal, refusal}, Step.{meaning, accepted, step, shown}}
use Rattle.protocol.specs.Tables.{load_owned, load_table, store_table, fence_table, advance_table, evict_table, serve_load, serve_asked, serve_table}
use Rattle.protocol.specs.Tables.{receive_renew, receive_grant, receive_table, yield_table, take_table, victim_table, table_of}
use Rattle.reference_points.specs.{Rows.{got, told}, Points.{points, PointsTheorem}, Steps.{step_rows, StepsTheorem}}
use Rattle.reference_points.specs.Numbers.{called, turned_away, refusals, NumbersTheorem, opens, accepted as is_accepted, refused_with_seven}
use Rattle.reference_points.specs.{Numbers.{inside, outside, OpeningsTheorem}, Show.{is_shown, is_told, looks, ShowTheorem}}
use Rattle.reference_points.specs.Spelt.{stored, told_of, spelt_rows, digit_refusals, SpeltTheorem}
use Rattle.reference_points.specs.Capacity.{got as cap_got, told as cap_told, full_rows, victim_rows, CapacityRowsTheorem}
use Rattle.reference_points.specs.Commits.{narrow}
use Rattle.protocol.proofs.Capacity.{capacity_theorem}
use native.Mathlib.Omega.{arith}
use Rattle.reference_points.proofs.Each.{agree}

-- the definitions that a call computes by: its refusals, its table, and what is moved
unfoldable pub calling : Unit {0}
unfolding every first unhex digit_rules opening_fits open_refusal owners_fit slots_fit state_fits buffers_fit machine_refusal call_rules call_refusal state_rules state_refusal refusal
    load_owned load_table store_table fence_table advance_table evict_table serve_load serve_asked serve_table receive_renew receive_grant receive_table yield_table
    take_table victim_table table_of held_below below victim_below moved_private moved_shared applied meaning accepted step shown
calling = tt

pub points_theorem : PointsTheorem
unfolding calling
points_theorem = agree got told points refl

pub steps_theorem : StepsTheorem
unfolding calling
steps_theorem = record { rows = agree got told step_rows refl; other = refl; shared = refl; clean = refl; dirty = refl; none = refl }

pub numbers_theorem : NumbersTheorem
unfolding calling
numbers_theorem = agree called turned_away refusals refl

pub spelt_theorem : SpeltTheorem
unfolding calling
spelt_theorem = record { spelled = refl; rows = agree stored told_of spelt_rows refl; numbers = agree called turned_away digit_refusals refl }

pub openings_theorem : OpeningsTheorem
unfolding calling
openings_theorem = record { inside = agree opens is_accepted inside refl; outside = agree opens refused_with_seven outside refl }

pub show_theorem : ShowTheorem
unfolding calling
show_theorem = agree is_shown is_told looks refl

pub capacity_rows_theorem : CapacityRowsTheorem
unfolding calling
capacity_rows_theorem =
    record {
      full = agree cap_got cap_told full_rows refl;
      victims = agree cap_got cap_told victim_rows refl;
      fresh = refl;
      outside = refl;
      of_three = refl;
      of_none = refl;
      tie = refl;
      of_one = refl;
      empty = refl;
      most = λ gs p. capacity_theorem narrow gs p 1 (omega arith);
    }
