-- What is grown from found values, and from grown ones.
use Rattle.std.proofs.Common.{◌≡◌, ℕ, zero, suc, ◌+◌, ◌*◌, ◌/◌, Bool, true, false, ◌⊎◌, sym, ap, ◌∙◌, subst, inl, inr, ⊎_elim, add-one, arith}
use Rattle.std.proofs.lemmas.Bool.{cases_Bool, cond-true, cond-false}
use Rattle.std.proofs.lemmas.Bool.Decides.{not_from_Decides}
use Rattle.growth.specs.Order.{made}
use Rattle.growth.specs.Places.{Layout, carried}
use Rattle.growth.specs.Values.{grown, Later}
use Rattle.growth.proofs.Making.{Made, made_decides, made_later}
use Rattle.growth.proofs.Placing.{carried_decides}

pub not_carried : (lay : Layout) (l p t x : ℕ) → (Made l p t x → ⊥) → carried lay l p t x ≡ false
not_carried lay l p t x never = ⊎_elim (λ e. absurd (never ((carried_decides lay l p t x).0 e).0)) (λ e. e) (cases_Bool (carried lay l p t x))

-- a child of a node that is not made is carried, or not made either
child : (lay : Layout) (l p t x y : ℕ) → y / 2 ≡ x → (Made l p (suc t) x → ⊥) → (carried lay l p t y ≡ true) ⊎ (Made l p t y → ⊥)
child lay l p t x y e never =
    ⊎_elim
    (λ k. inl ((carried_decides lay l p t y).1 ((made_decides l p t y).0 k, inr (λ m. never (subst (λ z. Made l p (suc t) z) e (subst (λ z. Made l p z (y / 2)) (add-one t) m))))))
    (λ k. inr (not_from_Decides (made l p t y) (made_decides l p t y) k))
    (cases_Bool (made l p t y))

module _ {N : Type 0} (leaf : ℕ → N) (join : N → N → N) where
  pub grown_there : (there : ℕ → ℕ → Bool) (found : ℕ → ℕ → N) (t x : ℕ) → there t x ≡ true → grown leaf join there found t x ≡ found t x
  grown_there there found zero x h = cond-true (there 0 x) _ _ h
  grown_there there found (suc t) x h = cond-true (there (suc t) x) _ _ h

  pub grown_leaf : (there : ℕ → ℕ → Bool) (found : ℕ → ℕ → N) (x : ℕ) → there 0 x ≡ false → grown leaf join there found 0 x ≡ leaf x
  grown_leaf there found x h = cond-false (there 0 x) _ _ h

  pub grown_join : (there : ℕ → ℕ → Bool) (found : ℕ → ℕ → N) (t x : ℕ) → there (t + 1) x ≡ false → grown leaf join there found (t + 1) x ≡ join (grown leaf join there found t (2 * x)) (grown leaf join there found t (2 * x + 1))
  grown_join there found t x h = ap (λ k. grown leaf join there found k x) (add-one t) ∙ cond-false (there (suc t) x) _ _ (ap (λ k. there k x) (sym (add-one t)) ∙ h)

  -- from the nodes of a tree, nodes of the tree are grown
  pub grown_true : (node : ℕ → ℕ → N) → ((x : ℕ) → node 0 x ≡ leaf x) → ((t x : ℕ) → node (suc t) x ≡ join (node t (2 * x)) (node t (2 * x + 1))) → (there : ℕ → ℕ → Bool) (found : ℕ → ℕ → N) → ((t x : ℕ) → there t x ≡ true → found t x ≡ node t x) → (t x : ℕ) → grown leaf join there found t x ≡ node t x
  grown_true node bottom up there found all zero x = ⊎_elim (λ e. grown_there there found 0 x e ∙ all 0 x e) (λ e. grown_leaf there found x e ∙ sym (bottom x)) (cases_Bool (there 0 x))
  grown_true node bottom up there found all (suc t) x =
      ⊎_elim (λ e. grown_there there found (suc t) x e ∙ all (suc t) x e)
      (λ e.
      cond-false (there (suc t) x) _ _ e
      ∙ ap (λ a. join a (grown leaf join there found t (2 * x + 1))) (grown_true node bottom up there found all t (2 * x))
      ∙ ap (join (node t (2 * x))) (grown_true node bottom up there found all t (2 * x + 1))
      ∙ sym (up t x))
      (cases_Bool (there (suc t) x))

  -- What is grown from grown values is grown. It holds of the nodes that are carried in between, or not made then;
  -- one that was consumed in between is lost.
  pub grown_through : (lay : Layout) (l p m q : ℕ) (found between : ℕ → ℕ → N) → Later l p m q → ((t x : ℕ) → carried lay m q t x ≡ true → between t x ≡ grown leaf join (carried lay l p) found t x) → (t x : ℕ) → (carried lay m q t x ≡ true) ⊎ (Made m q t x → ⊥) → grown leaf join (carried lay m q) between t x ≡ grown leaf join (carried lay l p) found t x
  grown_through lay l p m q found between later all t x (inl e) = grown_there (carried lay m q) between t x e ∙ all t x e
  grown_through lay l p m q found between later all zero x (inr never) =
      grown_leaf (carried lay m q) between x (not_carried lay m q 0 x never)
      ∙ sym (grown_leaf (carried lay l p) found x (not_carried lay l p 0 x (λ k. never (made_later l p m q 0 x later k))))
  grown_through lay l p m q found between later all (suc t) x (inr never) =
      cond-false (carried lay m q (suc t) x) _ _ (not_carried lay m q (suc t) x never)
      ∙ ap (λ a. join a (grown leaf join (carried lay m q) between t (2 * x + 1))) (grown_through lay l p m q found between later all t (2 * x) (child lay m q t x (2 * x) (omega arith) never))
      ∙ ap (join (grown leaf join (carried lay l p) found t (2 * x))) (grown_through lay l p m q found between later all t (2 * x + 1) (child lay m q t x (2 * x + 1) (omega arith) never))
      ∙ sym (cond-false (carried lay l p (suc t) x) _ _ (not_carried lay l p (suc t) x (λ k. never (made_later l p m q (suc t) x later k))))
