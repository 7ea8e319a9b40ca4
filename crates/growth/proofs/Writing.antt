-- What one unit writes, and what several in a row come to.
use Rattle.std.proofs.Common.{◌≡◌, ℕ, suc, ◌+◌, ◌-◌, ◌*◌, ◌/◌, ◌^◌, ◌<◌, ◌≤◌, true, false, List, length, get_or, set, sym, refl, ap, ◌∙◌, subst, inl, inr, ⊎_elim, arith, length-set}
use Rattle.std.proofs.lemmas.List.{get_or-set_same, get_or-set_other}
use Rattle.std.proofs.lemmas.Bool.{cases_Bool, both_ways, cases_lt}
use Rattle.std.proofs.lemmas.Bool.Decides.{not_from_Decides}
use Rattle.growth.specs.Order.{ends, made, Reached, newest, join_due}
use Rattle.growth.specs.Places.{Layout, carried, place, Sound, Room}
use Rattle.growth.specs.Values.{grown, Later, Grew}
use Rattle.growth.proofs.Ends.{ends_inside, inside_ends}
use Rattle.growth.proofs.Making.{Made, made_decides, made_later, made_le, made_child, not_made, none_made, Makes, join_makes, leaf_makes, join_left, join_right, due_true, newest_of, quiet, leaf_room, later_then}
use Rattle.growth.proofs.Placing.{Carried, carried_decides, places_apart, place_inside}
use Rattle.growth.proofs.Growing.{not_carried, grown_there, grown_leaf, grown_join, grown_through, grown_true}

-- what is carried later, and was made, was carried
was_carried : (lay : Layout) (l p m q t x : ℕ) → ((s y : ℕ) → Made l p s y → Made m q s y) → Carried lay m q t x → Made l p t x → Carried lay l p t x
was_carried lay l p m q t x keeps c k = (k, ⊎_elim inl (λ none. inr (λ up. none (keeps (t + 1) (x / 2) up))) c.1)

-- the node that a unit makes is carried
new_carried : (lay : Layout) (l p m q t x : ℕ) → Makes (Made l p) (Made m q) t x → Carried lay m q t x
new_carried lay l p m q t x k =
    (k.new, inr (λ up. ⊎_elim (λ old. k.fresh (made_child l p t x old)) (λ e. omega (arith, e.0)) (k.only (t + 1) (x / 2) up)))

-- the place of a made node lies in such a table
pub made_inside : (lay : Layout) (b : ℕ) → Sound lay b → (l p t x len : ℕ) → l ≤ 2 ^ lay.top → Made l p t x → Room lay b len → place lay t x < len
made_inside lay b sound l p t x len most m room =
    let (low, in_tree) = ends_inside lay.top t x (omega (arith, made_le l p t x m)) in
    place_inside lay b sound t x len low in_tree room.0 room.1

module _ {N : Type 0} (leaf : ℕ → N) (join : N → N → N) (lay : Layout) where
  module _ (b : ℕ) (sound : Sound lay b) where
    grew_one : (l p m q t x : ℕ) (before : List N) (v : N) → Later l p m q → Makes (Made l p) (Made m q) t x → m ≤ 2 ^ lay.top → Room lay b (length before) → ((d : N) → v ≡ grown leaf join (carried lay l p) (λ u y. get_or before (place lay u y) d) t x) → Grew leaf join lay l p m q before (set before (place lay t x) v)
    grew_one l p m q t x before v later k most room is = record {
      later = later;
      long = length-set before (place lay t x) v;
      carries = λ d u y c.
          let at = place lay t x in
          let F = λ (u y : ℕ). grown leaf join (carried lay l p) (λ u y. get_or before (place lay u y) d) u y in
          let all = (carried_decides lay m q u y).0 c in
          let inside : at < length before = made_inside lay b sound m q t x (length before) most k.new room in
          ⊎_elim
          (λ old.
          let other : place lay u y ≡ at → ⊥ = λ e. let (a, b) = places_apart lay b sound m q u y t x most all (new_carried lay l p m q t x k) e in k.fresh (subst (λ z. Made l p t z) b (subst (λ z. Made l p z y) a old)) in
          get_or-set_other before at (place lay u y) v d other
          ∙ sym (grown_there leaf join (carried lay l p) (λ u y. get_or before (place lay u y) d) u y ((carried_decides lay l p u y).1 (was_carried lay l p m q u y k.keeps all old))))
          (λ e.
          ap (λ z. get_or (set before at v) (place lay z y) d) e.0
          ∙ ap (λ z. get_or (set before at v) (place lay t z) d) e.1
          ∙ get_or-set_same before at v d inside ∙ is d ∙ ap (λ z. F z x) (sym e.0) ∙ ap (F u) (sym e.1))
          (k.only u y all.0);
      leaves = λ d j apart. get_or-set_other before (place lay t x) j v d (λ e. apart t x ((made_decides m q t x).1 k.new) (not_made l p t x k.fresh) (sym e));
    }

    -- a join writes the parent of the two newest nodes that lie on the stack
    pub grew_join : (l p : ℕ) (before : List N) (v : N) → Reached lay.top l p → join_due l p ≡ true → Room lay b (length before) → ((d : N) → v ≡ join (get_or before (place lay p (newest l p - 1)) d) (get_or before (place lay p (newest l p)) d)) → Grew leaf join lay l p l (p + 1) before (set before (place lay (p + 1) (newest l p / 2)) v)
    grew_join l p before v reached due room is =
        let a = newest l p in
        let (pos, odd) = due_true l p due in
        let e = newest_of lay.top l p reached pos in
        let k = join_makes l p a e odd in
        grew_one l p l (p + 1) (p + 1) (a / 2) before v (inr (refl, omega arith)) k reached.0 room
        (λ d.
        let there = carried lay l p in
        let found : ℕ → ℕ → N = λ t x. get_or before (place lay t x) d in
        let right : 2 * (a / 2) + 1 ≡ a = omega arith in
        let left : 2 * (a / 2) ≡ a - 1 = omega arith in
        let G = grown leaf join there found p in
        let one : G (2 * (a / 2)) ≡ found p (a - 1) = ap G left ∙ grown_there leaf join there found p (a - 1) ((carried_decides lay l p p (a - 1)).1 ((join_left l p a e odd).0, inr (join_left l p a e odd).1)) in
        let two : G (2 * (a / 2) + 1) ≡ found p a = ap G right ∙ grown_there leaf join there found p a ((carried_decides lay l p p a).1 ((join_right l p a e odd).0, inr (join_right l p a e odd).1)) in
        is d ∙ sym (grown_join leaf join there found p (a / 2) (not_carried lay l p (p + 1) (a / 2) k.fresh) ∙ ap (λ z. join z (G (2 * (a / 2) + 1))) one ∙ ap (join (found p (a - 1))) two))

    pub grew_leaf : (l p : ℕ) (before : List N) → Reached lay.top l p → (l ≡ 2 ^ lay.top → p < lay.top) → join_due l p ≡ false → Room lay b (length before) → Grew leaf join lay l p (l + 1) 0 before (set before (place lay 0 l) (leaf l))
    grew_leaf l p before reached more none room =
        let k = leaf_makes l p (quiet lay.top l p reached none) in
        grew_one l p (l + 1) 0 0 l before (leaf l) (inl (omega arith)) k (leaf_room lay.top l p reached more none) room
        (λ d. sym (grown_leaf leaf join (carried lay l p) (λ u y. get_or before (place lay u y) d) l (not_carried lay l p 0 l k.fresh)))

    -- what lies past the stack stays
    pub grew_past : (l p m q : ℕ) (before now : List N) → m ≤ 2 ^ lay.top → Grew leaf join lay l p m q before now → (len : ℕ) → Room lay b len → (d : N) (k : ℕ) → len ≤ k → get_or now k d ≡ get_or before k d
    grew_past l p m q before now most grew len room d k past =
        grew.leaves d k (λ t x new old at. omega (arith, made_inside lay b sound m q t x len most ((made_decides m q t x).0 new) room))

  pub grew_none : (l p : ℕ) (before : List N) → Grew leaf join lay l p l p before before
  grew_none l p before = record {
    later = inr (refl, omega arith);
    long = refl;
    carries = λ d t x c. sym (grown_there leaf join (carried lay l p) (λ u y. get_or before (place lay u y) d) t x c);
    leaves = λ d k apart. refl;
  }

  pub grew_then : (l p m q n r : ℕ) (a b c : List N) → Grew leaf join lay l p m q a b → Grew leaf join lay m q n r b c → Grew leaf join lay l p n r a c
  grew_then l p m q n r a b c first second = record {
    later = later_then l p m q n r first.later second.later;
    long = second.long ∙ first.long;
    carries = λ d t x k.
        second.carries d t x k
        ∙ grown_through leaf join lay l p m q (λ u y. get_or a (place lay u y) d) (λ u y. get_or b (place lay u y) d) first.later (first.carries d) t x
        (⊎_elim (λ e. inl ((carried_decides lay m q t x).1 (was_carried lay m q n r t x (λ u y. made_later m q n r u y second.later) ((carried_decides lay n r t x).0 k) ((made_decides m q t x).0 e))))
        (λ e. inr (not_from_Decides (made m q t x) (made_decides m q t x) e)) (cases_Bool (made m q t x)));
    leaves = λ d k apart.
        second.leaves d k (λ t x new old at. apart t x new (not_made l p t x (λ z. both_ways (made m q t x) old ((made_decides m q t x).1 (made_later l p m q t x first.later z)))) at)
        ∙ first.leaves d k (λ t x new old at. apart t x ((made_decides n r t x).1 (made_later m q n r t x second.later ((made_decides m q t x).0 new))) old at);
  }

  -- The nodes of a tree, in their places.
  module _ (node : ℕ → ℕ → N) (bottom : (x : ℕ) → node 0 x ≡ leaf x) (up : (t x : ℕ) → node (suc t) x ≡ join (node t (2 * x)) (node t (2 * x + 1))) where
    -- from nodes of the tree come nodes of the tree
    pub grew_true : (l p m q : ℕ) (a b : List N) (d : N) → Grew leaf join lay l p m q a b → ((t x : ℕ) → carried lay l p t x ≡ true → get_or a (place lay t x) d ≡ node t x) → (t x : ℕ) → carried lay m q t x ≡ true → get_or b (place lay t x) d ≡ node t x
    grew_true l p m q a b d grew all t x c = grew.carries d t x c ∙ grown_true leaf join node bottom up (carried lay l p) (λ u y. get_or a (place lay u y) d) all t x

-- nothing is carried at the start
pub none_carried : (lay : Layout) (t x : ℕ) → carried lay 0 0 t x ≡ false
none_carried lay t x = not_carried lay 0 0 t x (none_made t x)

-- at the end all nodes of the tree are made
pub whole_made : (T t x : ℕ) → t ≤ T → ends t x ≤ 2 ^ T → Made (2 ^ T) T t x
whole_made T t x low most = ⊎_elim (λ k. inl k) (λ k. inr (omega arith, low)) (cases_lt (ends t x) (2 ^ T))

-- so the nodes with a cell of their own are carried
pub whole_carried : (lay : Layout) (t x : ℕ) → t ≤ lay.top → x < 2 ^ (lay.top - t) → lay.owns t x ≡ true → carried lay (2 ^ lay.top) lay.top t x ≡ true
whole_carried lay t x low in_tree own = (carried_decides lay (2 ^ lay.top) lay.top t x).1 (whole_made lay.top t x low (inside_ends lay.top t x low in_tree), inl own)
