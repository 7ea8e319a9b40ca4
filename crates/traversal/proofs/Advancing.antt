-- What one unit does to a treehash and its world, and what units in a row do.
use Rattle.std.proofs.Common.{◌≡◌, ℕ, ◌+◌, ◌-◌, ◌/◌, ◌%◌, ◌^◌, ◌<◌, ◌≤◌, true, false, cond, List, length, get_or, set, Some, Ok, sym, refl, ap, ◌∙◌, subst, ap₂, ⊎_elim, arith}
use Rattle.std.proofs.lemmas.Bool.{cases_lt}
use Rattle.growth.specs.Order.{ends, Reached, newest, join_due, joined}
use Rattle.growth.specs.Places.{place, stacked_below, stack_size, Room}
use Rattle.growth.specs.Values.{Grew}
use Rattle.growth.proofs.Ends.{ends_zero, ends_half_odd, ends_inside}
use Rattle.growth.proofs.Making.{due_true, newest_of, join_height, join_reached, leaf_room, leaf_reached}
use Rattle.growth.proofs.Placing.{size_some, size_join, size_leaf, below_sibling}
use Rattle.growth.proofs.Counting.{joined_join, joined_leaf}
use Rattle.growth.proofs.Writing.{grew_join, grew_leaf, grew_none, grew_then}
use Rattle.tree.specs.Meaning.{Meaning, Meter, Wraps, after}
use Rattle.tree.specs.Supply.{Supply, presence}
use Rattle.tree.proofs.Metering.{after_after, after_none}
use Rattle.traversal.specs.declared.plot.Plot.{Plot}
use Rattle.traversal.specs.declared.treehash.Treehash.{Treehash}
use Rattle.traversal.specs.Plots.{layout, depth, Legal}
use Rattle.traversal.specs.Worlds.{World, world, or_nothing, leaf_at}
use Rattle.traversal.specs.Units.{Standing, Unfinished, Advanced}
use Rattle.traversal.proofs.Plotting.{sound}

-- the next leaf is a node of the tree, and what is on the stack lies below it
pub next_leaf : (plot : Plot) (g : Treehash) → Standing plot g → Unfinished plot g → join_due g.leaves g.newest ≡ false → g.leaves < 2 ^ (plot.top - 0)
next_leaf plot g standing more due =
    let all : plot.top - 0 ≡ plot.top = omega arith in
    subst (λ k. g.leaves < 2 ^ k) (sym all) (omega (arith, leaf_room plot.top g.leaves g.newest standing.0 more due))

pub stacked_leaf : (plot : Plot) (g : Treehash) → Standing plot g → Unfinished plot g → join_due g.leaves g.newest ≡ false → g.stacked ≡ stacked_below (layout plot) (plot.top - 0) 0 g.leaves
stacked_leaf plot g standing more due = standing.2 ∙ sym (size_leaf (layout plot) g.leaves g.newest standing.0 more due)

pub standing_leaf : (plot : Plot) (g h : Treehash) → Standing plot g → Unfinished plot g → join_due g.leaves g.newest ≡ false → h.leaves ≡ g.leaves + 1 → h.joins ≡ g.joins → h.newest ≡ 0 → h.stacked ≡ g.stacked + cond ((layout plot).owns 0 g.leaves) 0 1 → Standing plot h
standing_leaf plot g h standing more due leaves joins newest stacked =
    let l = g.leaves in
    let p = g.newest in
    let ends_at : l + 1 ≡ ends 0 l = sym (ends_zero l) in (
      subst (λ k. Reached plot.top k h.newest) (sym leaves) (subst (λ k. Reached plot.top (l + 1) k) (sym newest) (leaf_reached plot.top l p standing.0 more due)),
      joins ∙ standing.1 ∙ sym (joined_leaf plot.top l p standing.0 due) ∙ ap₂ joined (sym leaves) (sym newest),
      stacked ∙ ap (λ k. k + cond ((layout plot).owns 0 l) 0 1) (stacked_leaf plot g standing more due) ∙ sym (size_some (layout plot) (l + 1) 0 l ends_at (omega arith)) ∙ ap₂ (stack_size (layout plot)) (sym leaves) (sym newest),
    )

-- the two nodes of a join, and their parent, are nodes of the tree
pub join_index : (plot : Plot) (g : Treehash) → Standing plot g → join_due g.leaves g.newest ≡ true → (0 < g.leaves) × (newest g.leaves g.newest % 2 ≡ 1) × (g.newest + 1 ≤ plot.top)
join_index plot g standing due =
    let (pos, odd) = due_true g.leaves g.newest due in
    (pos, odd, join_height plot.top g.leaves g.newest standing.0 due)

pub stacked_join : (plot : Plot) (g : Treehash) → Standing plot g → join_due g.leaves g.newest ≡ true → g.stacked ≡ stacked_below (layout plot) (plot.top - g.newest) g.newest (newest g.leaves g.newest) + cond ((layout plot).owns g.newest (newest g.leaves g.newest)) 0 1
stacked_join plot g standing due =
    let (pos, odd) = due_true g.leaves g.newest due in
    standing.2 ∙ size_some (layout plot) g.leaves g.newest (newest g.leaves g.newest) (newest_of plot.top g.leaves g.newest standing.0 pos) pos

-- the left child of a join lies right below the right one, and their parent takes its place
pub below_left : (plot : Plot) (p a : ℕ) → a % 2 ≡ 1 → p + 1 ≤ plot.top → stacked_below (layout plot) (plot.top - p) p a ≡ stacked_below (layout plot) (plot.top - p) p (a - 1) + cond ((layout plot).owns p (a - 1)) 0 1
below_left plot p a odd high =
    let back : a - 1 + 1 ≡ a = omega arith in
    let even : (a - 1) % 2 ≡ 0 = omega arith in
    ap (stacked_below (layout plot) (plot.top - p) p) (sym back) ∙ below_sibling (layout plot) (plot.top - p) p (a - 1) (omega arith) even

pub below_parent : (plot : Plot) (p a : ℕ) → a % 2 ≡ 1 → p + 1 ≤ plot.top → stacked_below (layout plot) (plot.top - p) p (a - 1) ≡ stacked_below (layout plot) (plot.top - (p + 1)) (p + 1) (a / 2)
below_parent plot p a odd high = omega (arith, below_left plot p a odd high, size_join (layout plot) p a odd high)

-- a join's three nodes are nodes of the tree
pub right_inside : (plot : Plot) (g : Treehash) → Standing plot g → 0 < g.leaves → newest g.leaves g.newest < 2 ^ (plot.top - g.newest)
right_inside plot g standing pos =
    let at = newest_of plot.top g.leaves g.newest standing.0 pos in
    (ends_inside plot.top g.newest (newest g.leaves g.newest) (omega (arith, standing.0.0))).1

pub parent_inside : (plot : Plot) (g : Treehash) → Standing plot g → 0 < g.leaves → newest g.leaves g.newest % 2 ≡ 1 → newest g.leaves g.newest / 2 < 2 ^ (plot.top - (g.newest + 1))
parent_inside plot g standing pos odd =
    let at = newest_of plot.top g.leaves g.newest standing.0 pos in
    let up = ends_half_odd g.newest (newest g.leaves g.newest) odd in
    (ends_inside plot.top (g.newest + 1) (newest g.leaves g.newest / 2) (omega (arith, standing.0.0))).1

pub standing_join : (plot : Plot) (g h : Treehash) → Standing plot g → join_due g.leaves g.newest ≡ true → h.leaves ≡ g.leaves → h.joins ≡ g.joins + 1 → h.newest ≡ g.newest + 1 → h.stacked ≡ stacked_below (layout plot) (plot.top - (g.newest + 1)) (g.newest + 1) (newest g.leaves g.newest / 2) + cond ((layout plot).owns (g.newest + 1) (newest g.leaves g.newest / 2)) 0 1 → Standing plot h
standing_join plot g h standing due leaves joins up stacked =
    let l = g.leaves in
    let p = g.newest in
    let a = newest l p in
    let (pos, odd) = due_true l p due in
    let at = newest_of plot.top l p standing.0 pos ∙ sym (ends_half_odd p a odd) in (
      subst (λ k. Reached plot.top k h.newest) (sym leaves) (subst (λ k. Reached plot.top l k) (sym up) (join_reached plot.top l p standing.0 due)),
      joins ∙ ap (λ k. k + 1) standing.1 ∙ sym (joined_join plot.top l p standing.0 due) ∙ ap₂ joined (sym leaves) (sym up),
      stacked ∙ sym (size_some (layout plot) l (p + 1) (a / 2) at pos) ∙ ap₂ (stack_size (layout plot)) (sym leaves) (sym up),
    )

module _ {N : Type 0} (plot : Plot) where
  pub advanced_leaf : Legal plot → (table later : List N) (m m' : Meaning N) (k k' : Meter) (s s' : Supply) (g h : Treehash) (token : List ℕ) (node : N) → Standing plot g → Unfinished plot g → join_due g.leaves g.newest ≡ false → Room (layout plot) (depth plot) (length table) → presence s g.leaves ≡ Ok tt → s.token g.leaves ≡ Some token → node ≡ m.leaf g.leaves token → later ≡ set table (place (layout plot) 0 g.leaves) node → m' ≡ m → k' ≡ after 1 0 k → s' ≡ s → h.leaves ≡ g.leaves + 1 → h.joins ≡ g.joins → h.newest ≡ 0 → Advanced plot (world table m k s) g 1 0 (world later m' k' s') h
  advanced_leaf legal table later m m' k k' s s' g h token node standing more due room there is made put keeps counts stays leaves joins newest =
      let l = g.leaves in
      let p = g.newest in
      let L : ℕ → N = leaf_at m s in
      let value : node ≡ L l = made ∙ ap (λ t. m.leaf l (or_nothing t)) (sym is) in
      let now : set table (place (layout plot) 0 l) (L l) ≡ later = ap (set table (place (layout plot) 0 l)) (sym value) ∙ sym put in
      let grew = grew_leaf L m.join (layout plot) (depth plot) (sound plot legal) l p table standing.0 more due room in
      record {
        leaves_made = leaves;
        joins_made = omega arith;
        present = λ n from to. let only : n ≡ l = omega arith in ap (presence s) only ∙ there;
        grew = subst (λ t. Grew L m.join (layout plot) l p h.leaves h.newest table t) now
            (subst (λ a. Grew L m.join (layout plot) l p a h.newest table (set table (place (layout plot) 0 l) (L l))) (sym leaves)
            (subst (λ a. Grew L m.join (layout plot) l p (l + 1) a table (set table (place (layout plot) 0 l) (L l))) (sym newest) grew));
        metered = counts;
        meaning = keeps;
        supply = stays;
      }

  pub advanced_join : Legal plot → (table later : List N) (m m' : Meaning N) (k k' : Meter) (s : Supply) (g h : Treehash) (left right node : N) → Standing plot g → join_due g.leaves g.newest ≡ true → Room (layout plot) (depth plot) (length table) → ((d : N) → left ≡ get_or table (place (layout plot) g.newest (newest g.leaves g.newest - 1)) d) → ((d : N) → right ≡ get_or table (place (layout plot) g.newest (newest g.leaves g.newest)) d) → node ≡ m.join left right → later ≡ set table (place (layout plot) (g.newest + 1) (newest g.leaves g.newest / 2)) node → m' ≡ m → k' ≡ after 0 1 k → h.leaves ≡ g.leaves → h.joins ≡ g.joins + 1 → h.newest ≡ g.newest + 1 → Advanced plot (world table m k s) g 0 1 (world later m' k' s) h
  advanced_join legal table later m m' k k' s g h left right node standing due room one two made put keeps counts leaves joins up =
      let l = g.leaves in
      let p = g.newest in
      let L : ℕ → N = leaf_at m s in
      let at = place (layout plot) (p + 1) (newest l p / 2) in
      let grew = grew_join L m.join (layout plot) (depth plot) (sound plot legal) l p table node standing.0 due room
      (λ d. made ∙ ap (λ z. m.join z right) (one d) ∙ ap (m.join (get_or table (place (layout plot) p (newest l p - 1)) d)) (two d)) in
      record {
        leaves_made = omega arith;
        joins_made = joins;
        present = λ n from to. absurd (omega arith);
        grew = subst (λ t. Grew L m.join (layout plot) l p h.leaves h.newest table t) (sym put)
            (subst (λ a. Grew L m.join (layout plot) l p a h.newest table (set table at node)) (sym leaves)
            (subst (λ a. Grew L m.join (layout plot) l p l a table (set table at node)) (sym up) grew));
        metered = counts;
        meaning = keeps;
        supply = refl;
      }

  pub advanced_none : (v : World N) (g : Treehash) → Wraps v.meter → Advanced plot v g 0 0 v g
  advanced_none v g wraps = record {
    leaves_made = omega arith;
    joins_made = omega arith;
    present = λ n from to. absurd (omega arith);
    grew = grew_none (leaf_at v.meaning v.supply) v.meaning.join (layout plot) g.leaves g.newest v.table;
    metered = sym (after_none v.meter wraps);
    meaning = refl;
    supply = refl;
  }

  pub advanced_then : (u v w : World N) (f g h : Treehash) (a b c d : ℕ) → Advanced plot u f a b v g → Advanced plot v g c d w h → Advanced plot u f (a + c) (b + d) w h
  advanced_then u v w f g h a b c d first second =
      let L = leaf_at u.meaning u.supply in
      let J = u.meaning.join in
      let same : Grew L J (layout plot) g.leaves g.newest h.leaves h.newest v.table w.table =
      subst (λ (m : Meaning N). Grew (leaf_at m u.supply) m.join (layout plot) g.leaves g.newest h.leaves h.newest v.table w.table) first.meaning
      (subst (λ (s : Supply). Grew (leaf_at v.meaning s) v.meaning.join (layout plot) g.leaves g.newest h.leaves h.newest v.table w.table) first.supply second.grew) in
      record {
        leaves_made = omega (arith, first.leaves_made, second.leaves_made);
        joins_made = omega (arith, first.joins_made, second.joins_made);
        present = λ n from to. ⊎_elim (λ less. first.present n from less) (λ more. ap (λ s. presence s n) (sym first.supply) ∙ second.present n more to) (cases_lt n g.leaves);
        grew = grew_then L J (layout plot) f.leaves f.newest g.leaves g.newest h.leaves h.newest u.table v.table w.table first.grew same;
        metered = second.metered ∙ ap (after c d) first.metered ∙ after_after a b c d u.meter;
        meaning = second.meaning ∙ first.meaning;
        supply = second.supply ∙ first.supply;
      }
