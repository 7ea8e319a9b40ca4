-- The cell of a home is the place of the node that lies there.
use Rattle.std.proofs.Common.{◌≡◌, ℕ, ◌+◌, ◌-◌, ◌/◌, ◌^◌, ◌<◌, ◌≤◌, true, cond, sym, ◌∙◌, ap₂, arith}
use Rattle.std.proofs.lemmas.Bool.{cond-true, cond-false}
use Rattle.growth.specs.Order.{newest, join_due}
use Rattle.growth.specs.Places.{place, stacked_below, Room}
use Rattle.growth.proofs.Placing.{place_own, place_tail, place_inside}
use Rattle.traversal.specs.declared.plot.Plot.{Plot}
use Rattle.traversal.specs.declared.plot.Home.{Home}
use Rattle.traversal.specs.declared.plot.Home.TheVariants.{Root, Subtree, Stack}
use Rattle.traversal.specs.declared.treehash.Treehash.{Treehash}
use Rattle.traversal.specs.Plots.{owns_cell, layout, depth, Legal, Lies, cell_of, on_stack}
use Rattle.traversal.specs.Units.{Standing}
use Rattle.traversal.proofs.Plotting.{sound}
use Rattle.traversal.proofs.Advancing.{join_index, stacked_join, below_left, below_parent, right_inside, parent_inside}

pub adds : (plot : Plot) (t x : ℕ) (home : Home) → Lies plot t x home → on_stack home ≡ cond (owns_cell plot t x) 0 1
adds plot t x Root lies = sym (cond-true {A = ℕ} (owns_cell plot t x) 0 1 lies.0)
adds plot t x (Subtree start offset) lies = sym (cond-true {A = ℕ} (owns_cell plot t x) 0 1 lies.0)
adds plot t x (Stack tail) lies = sym (cond-false {A = ℕ} (owns_cell plot t x) 0 1 lies.0)

pub cell_is : (plot : Plot) (t x stacked : ℕ) (home : Home) → Lies plot t x home → stacked ≡ stacked_below (layout plot) (plot.top - t) t x → cell_of home stacked ≡ place (layout plot) t x
cell_is plot t x stacked Root lies below = sym (place_own (layout plot) t x lies.0 ∙ lies.1)
cell_is plot t x stacked (Subtree start offset) lies below = sym (place_own (layout plot) t x lies.0 ∙ lies.1)
cell_is plot t x stacked (Stack tail) lies below = ap₂ (λ a b. a + b) lies.1 below ∙ sym (place_tail (layout plot) t x lies.0)

pub cell_inside : (plot : Plot) → Legal plot → (t x stacked len : ℕ) (home : Home) → Lies plot t x home → stacked ≡ stacked_below (layout plot) (plot.top - t) t x → t ≤ plot.top → x < 2 ^ (plot.top - t) → Room (layout plot) (depth plot) len → cell_of home stacked < len
cell_inside plot legal t x stacked len home lies below low in_tree room =
    omega (arith, cell_is plot t x stacked home lies below, place_inside (layout plot) (depth plot) (sound plot legal) t x len low in_tree room.0 room.1)

-- what is on the stack without the node
pub without : (plot : Plot) (t x stacked : ℕ) (home : Home) → Lies plot t x home → stacked ≡ stacked_below (layout plot) (plot.top - t) t x + cond (owns_cell plot t x) 0 1 → (on_stack home ≤ stacked) × (stacked - on_stack home ≡ stacked_below (layout plot) (plot.top - t) t x)
without plot t x stacked home lies with =
    let one = adds plot t x home lies in
    (omega arith, omega arith)

-- The homes of a join's two nodes: the right one is on top of the stack, and then the left one.
module _ (plot : Plot) (g : Treehash) (standing : Standing plot g) (due : join_due g.leaves g.newest ≡ true) where
  abbrev last : ℕ
  last = newest g.leaves g.newest

  pub right_home : (home : Home) → Lies plot g.newest last home → (on_stack home ≤ g.stacked) × (g.stacked - on_stack home ≡ stacked_below (layout plot) (plot.top - g.newest) g.newest last)
  right_home home lies = without plot g.newest last g.stacked home lies (stacked_join plot g standing due)

  pub left_home : (stacked : ℕ) (home : Home) → Lies plot g.newest (last - 1) home → stacked ≡ stacked_below (layout plot) (plot.top - g.newest) g.newest last → (on_stack home ≤ stacked) × (stacked - on_stack home ≡ stacked_below (layout plot) (plot.top - g.newest) g.newest (last - 1))
  left_home stacked home lies below =
      let (pos, odd, high) = join_index plot g standing due in
      without plot g.newest (last - 1) stacked home lies (below ∙ below_left plot g.newest last odd high)

  -- how many nodes are below each of them: without the right one, without both, and thus below their parent
  pub stacked_without : (right left : Home) (one two : ℕ) → Lies plot g.newest last right → Lies plot g.newest (last - 1) left → one ≡ g.stacked - on_stack right → two ≡ one - on_stack left →
      (one ≡ stacked_below (layout plot) (plot.top - g.newest) g.newest last) × (two ≡ stacked_below (layout plot) (plot.top - g.newest) g.newest (last - 1)) × (two ≡ stacked_below (layout plot) (plot.top - (g.newest + 1)) (g.newest + 1) (last / 2))
  stacked_without right left one two lies_right lies_left takes_right takes_left =
      let (pos, odd, high) = join_index plot g standing due in
      let below_right = takes_right ∙ (right_home right lies_right).1 in
      let below = takes_left ∙ (left_home one left lies_left below_right).1 in
      (below_right, below, below ∙ below_parent plot g.newest last odd high)

  -- they and their parent are nodes of the tree
  pub inside : (g.newest + 1 ≤ plot.top) × (last < 2 ^ (plot.top - g.newest)) × (last - 1 < 2 ^ (plot.top - g.newest)) × (last / 2 < 2 ^ (plot.top - (g.newest + 1)))
  inside =
      let (pos, odd, high) = join_index plot g standing due in
      let right = right_inside plot g standing pos in
      (high, right, omega arith, parent_inside plot g standing pos odd)
