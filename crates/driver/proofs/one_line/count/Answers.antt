-- `driver::one_line::count` meets its contract: no count passes the greatest number. Assumes nothing.
use native.Mathlib.{Nat.add-zero, Omega.arith}
use Rattle.driver.proofs.{Counting.{Each, each_few}}
use Rattle.driver.proofs.one_line.count.Goals as goal
use Rattle.driver.proofs.one_line.count.Goals.{Start}

small : (c : Start) → Each c.args.counts.now 9223372036854775807
small c = each_few _ _ c.requires

pub overflow_add-counts : goal.overflow_add-counts
overflow_add-counts c = let a = small (goal.at.overflow_add-counts c).Start in omega arith

pub overflow_add-counts-in-Load : goal.overflow_add-counts-in-Load
overflow_add-counts-in-Load c = let a = small (goal.at.overflow_add-counts-in-Load c).Start in omega arith

pub overflow_add-counts-in-Load-2 : goal.overflow_add-counts-in-Load-2
overflow_add-counts-in-Load-2 c = let a = small (goal.at.overflow_add-counts-in-Load-2 c).Start in omega arith

pub overflow_add-counts-in-Store : goal.overflow_add-counts-in-Store
overflow_add-counts-in-Store c = let a = small (goal.at.overflow_add-counts-in-Store c).Start in omega arith

pub overflow_add-counts-in-Store-2 : goal.overflow_add-counts-in-Store-2
overflow_add-counts-in-Store-2 c = let a = small (goal.at.overflow_add-counts-in-Store-2 c).Start in omega arith

pub overflow_add-counts-in-Fence : goal.overflow_add-counts-in-Fence
overflow_add-counts-in-Fence c = let a = small (goal.at.overflow_add-counts-in-Fence c).Start in omega arith

pub overflow_add-counts-in-Fence-2 : goal.overflow_add-counts-in-Fence-2
overflow_add-counts-in-Fence-2 c = let a = small (goal.at.overflow_add-counts-in-Fence-2 c).Start in omega arith

pub overflow_add-counts-in-Ask : goal.overflow_add-counts-in-Ask
overflow_add-counts-in-Ask c = let a = small (goal.at.overflow_add-counts-in-Ask c).Start in omega arith

pub overflow_add-counts-in-Share : goal.overflow_add-counts-in-Share
overflow_add-counts-in-Share c = let a = small (goal.at.overflow_add-counts-in-Share c).Start in omega arith

pub overflow_add-counts-in-Renew : goal.overflow_add-counts-in-Renew
overflow_add-counts-in-Renew c = let a = small (goal.at.overflow_add-counts-in-Renew c).Start in omega arith

pub overflow_add-counts-in-Own : goal.overflow_add-counts-in-Own
overflow_add-counts-in-Own c = let a = small (goal.at.overflow_add-counts-in-Own c).Start in omega arith

pub overflow_add-counts-in-Refused : goal.overflow_add-counts-in-Refused
overflow_add-counts-in-Refused c = let a = small (goal.at.overflow_add-counts-in-Refused c).Start in omega arith

pub returns-in-Load : goal.returns-in-Load
returns-in-Load c = rw c.in-Load.is (simp add-zero)

pub returns-in-Store : goal.returns-in-Store
returns-in-Store c = rw c.in-Store.is (simp add-zero)

pub returns-in-Fence : goal.returns-in-Fence
returns-in-Fence c = rw c.in-Fence.is (simp add-zero)

pub returns-in-Ask : goal.returns-in-Ask
returns-in-Ask c = rw c.in-Ask.is (simp add-zero)

pub returns-in-Share : goal.returns-in-Share
returns-in-Share c = rw c.in-Share.is (simp add-zero)

pub returns-in-Renew : goal.returns-in-Renew
returns-in-Renew c = rw c.in-Renew.is (simp add-zero)

pub returns-in-Own : goal.returns-in-Own
returns-in-Own c = rw c.in-Own.is (simp add-zero)

pub returns-in-Refused : goal.returns-in-Refused
returns-in-Refused c = rw c.in-Refused.is (simp add-zero)

pub returns-in-Other : goal.returns-in-Other
returns-in-Other c = rw c.in-Other.is (simp add-zero)
