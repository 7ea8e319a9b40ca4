-- Arrays that a function made, of an index or of each number of another array.
use Rattle.std.proofs.Common.{◌≡◌, ℕ, zero, suc, ◌+◌, ◌<◌, List, length, get_or, map, sym, ap, subst, ◌∙◌, add-zero, zero-add, arith}
use Rattle.std.proofs.lemmas.List.{get_or-map, length-map, same_lists}
use Rattle.std.specs.Array.{IsFromFnResult, IsFromFnResultFrom, IsMapOf}
use Rattle.std.specs.Fn.{Called, Mut}

-- a function that stays as it is and gives h of each index
module _ {F : Type 0} (g : Mut F (ℕ × Unit {0}) ℕ) (f : F) (ys : List ℕ) (h : ℕ → ℕ)
    (gives : (i y : ℕ) (q : F) → Called g f (i, tt) y q → (y ≡ h i) × (q ≡ f)) where
  from_fn_from : (n i : ℕ) → IsFromFnResultFrom g f ys i n → (j : ℕ) → j < n → get_or ys (i + j) 0 ≡ h (i + j)
  from_fn_from zero i made j l = absurd (omega arith)
  from_fn_from (suc n) i made zero l =
      ap (λ k. get_or ys k 0) (add-zero i) ∙ made.2.1 0 ∙ (gives i made.1 made.0 made.3).0 ∙ ap h (sym (add-zero i))
  from_fn_from (suc n) i made (suc j) l =
      let next : i + 1 + j ≡ i + suc j = omega arith in
      let rest = subst (λ q. IsFromFnResultFrom g q ys (i + 1) n) (gives i made.1 made.0 made.3).1 made.4 in
      rw next at (from_fn_from n (i + 1) rest j (omega arith))

pub from_fn_is : {F : Type 0} {g : Mut F (ℕ × Unit {0}) ℕ} {f : F} {ys : List ℕ} {n : ℕ} →
    IsFromFnResult g f ys n → (h : ℕ → ℕ) →
    ((i y : ℕ) (q : F) → Called g f (i, tt) y q → (y ≡ h i) × (q ≡ f)) → (j : ℕ) → j < n → get_or ys j 0 ≡ h j
from_fn_is {g} {f} {ys} {n} made h gives j l = rw zero-add at (from_fn_from g f ys h gives n 0 made.each j l)

-- a function that gives h of each number
pub map_is : {F B : Type 0} {g : Mut F (ℕ × Unit {0}) B} {f : F} {xs : List ℕ} {ys : List B} {n : ℕ} →
    IsMapOf g f xs ys n → length xs ≡ n → (h : ℕ → B) → ((p q : F) (x : ℕ) (y : B) → Called g p (x, tt) y q → y ≡ h x) →
    ys ≡ map h xs
map_is {g} {f} {xs} {ys} {n} made size h gives =
    same_lists ys (map h xs) (made.long ∙ sym size ∙ sym (length-map xs h))
    (λ k d l. let within : k < n = omega (arith, made.long) in let inside : k < length xs = omega arith in
    let call = made.at k 0 d within in
    gives call.0 call.1 (get_or xs k 0) (get_or ys k d) call.2 ∙ sym (get_or-map h xs k 0 d inside))
