-- A local array of plain data that is lent as a `&mut [R]`, and comes back.
--     rep_is           n times one element is an array's value, `[v; n]`
--     lends_array      the local's cell, at a value of the array, becomes a `&mut [R]` for a lifetime ν of the call, and the lender's part
--     backs_array      once ν's token is back and the contract has said the last list, the lender's part becomes the local's cell, at the last list's value
-- Assumes `Logic`.
use mathlib.Core.Path.{◌≡◌, refl, sym, subst}
use Prim.Native.Nat.{ℕ, zero, suc}
use mathlib.Core.List.{List, [], ◌∷◌}
use lib.ListN.{length, replicate, length-replicate}
use seplogic.Ra.Ura.{Ura}
use base.Fraction.{full_share}
use mir.Syntax.{Ty, ty_array, named}
use mir.Raw.{raw as raw_ty}
use mir.Val.{Val}
use base.Fml.{GName, fsep, fat, flft, flent}
use types.Logic.{Logic}
use types.Kit.{Item, ‵, some, later, ◌⊛◌, Goal, Soaks, Seq, ◌$◌, move, drop, use1, use3, rewrite, split, pick, fsplit, fjoin, fpick, fpack, feq_l, await}
use types.Tokens.{lft_new, lft_end}
use types.SemTy.{cells, Arr}
use types.Share.{arr_parts}
use denote.RattleType.{RattleType}
use denote.Shadow.{shadow}
use denote.Laws.{Is, Makes, shows}
use denote.Memory.{cell_at, lone, part_at, mem, shares, part_of}
use denote.Array.{Array, each, array_val, Array-Makes}
use denote.ArrayMemory.{Single, Array-apart, Array-whole}
use denote.Slice.{slice_val, MutSlice, Room, finally}
use denote.Lend.{Held, lends_slice, slice_back}
use denote.Index.{row, whole_in, whole_out}
use denote.Steps.{owned, peeks}
use Rattle.walk.proofs.Calls.{at_list}

each_rep : (R : RattleType) (n : ℕ) (x : R.Denot) (v : Val) → Is R x (v ∷ []) → shadow (each R.Denot R.own_val (replicate n x) (replicate n v))
each_rep R zero x v is = tt
each_rep R (suc n) x v is = (is, each_rep R n x v is)

pub rep_is : (R : RattleType) (n : ℕ) (x : R.Denot) (v : Val) → Is R x (v ∷ []) → Is (Array R n) (replicate n x) (array_val (replicate n v) ∷ [])
rep_is R n x v is = (replicate n v, ((refl, length-replicate n x), each_rep R n x v is))

pub lends_array : {M : Type 1} {𝓤 : Ura M} {𝓛 : Logic 𝓤} {K : Type 0} {Γ : List (Item 𝓤)} {G : Goal 𝓤 𝓛.H} → K → Soaks G → (R : RattleType) → Single R.mir → Makes 𝓛 R (Is R) → (τ : Ty) (m : ℕ) → raw_ty (ty_array τ m) ≡ raw_ty (ty_array (lone R.mir) m)
    → (b : ℕ) (ys : List R.Denot) (v : Val) → Is (Array R m) ys (v ∷ []) → Room R m
    → ((ν : ℕ) (δ : GName) → length ys ≡ m → Seq K 𝓛 (‵ (flft (ν ∷ []) full_share) ∷ ‵ ((MutSlice (named 0) (ν ∷ []) R).own_val (at_list b 0 δ ys) (slice_val (b, 0) m ∷ [])) ∷ ‵ (flent (ν ∷ []) (Held R m b 0 δ)) ∷ Γ) G)
    → Seq K 𝓛 (‵ (fat full_share (ty_array τ m) b 0 v) ∷ Γ) G
unfolding part_of
lends_array {𝓤 = 𝓤} {𝓛 = 𝓛} t z R one mk τ m same b ys v is room k =
    use1 𝓛 (‵ (fat full_share (raw_ty (ty_array τ m)) b 0 v)) (𝓛.laws.at_raw full_share (ty_array τ m) b 0 v) $ rewrite t 0 (λ (σ : Ty). ‵ (fat full_share σ b 0 v)) same refl $
    owned t (Array R m) (Is (Array R m)) (Array-Makes 𝓛 R mk m) ys (v ∷ []) is $ move t (1 ∷ 0 ∷ []) $ fjoin t $ fpack t (List Val) (λ us. fsep (cell_at full_share (Array R m).mir us b 0) ((Array R m).own_val ys us)) (v ∷ []) $
    use1 𝓛 (‵ ((arr_parts (shares R) m).part full_share ys b 0)) (Array-apart 𝓛 R full_share one m ys b 0) $ fsplit t $ feq_l t (λ l.
    use1 𝓛 (‵ (cells (mem R) ys b 0)) (whole_in 𝓛 R ys b 0) $ lft_new t z (λ ν. move t (1 ∷ []) $
    use1 𝓛 (later (some (λ (δ : GName). ‵ ((MutSlice (named 0) (ν ∷ []) R).own_val (at_list b 0 δ ys) (slice_val (b, 0) (length ys) ∷ [])) ⊛ ‵ (flent (ν ∷ []) (Held R (length ys) b 0 δ))))) (lends_slice 𝓛 R (named 0) (ν ∷ []) ys b 0 (subst (Room R) (sym l) room)) $ await t z $ pick t (λ δ. split t $
    rewrite t 0 (λ (n : ℕ). ‵ ((MutSlice (named 0) (ν ∷ []) R).own_val (at_list b 0 δ ys) (slice_val (b, 0) n ∷ []))) l refl $ rewrite t 1 (λ (n : ℕ). ‵ (flent (ν ∷ []) (Held R n b 0 δ))) l refl $ move t (2 ∷ 0 ∷ 1 ∷ []) $ k ν δ l)))

pub backs_array : {M : Type 1} {𝓤 : Ura M} {𝓛 : Logic 𝓤} {K : Type 0} {Γ : List (Item 𝓤)} {G : Goal 𝓤 𝓛.H} → K → Soaks G → (R : RattleType) (τ : Ty) (m : ℕ) → raw_ty (ty_array τ m) ≡ raw_ty (ty_array (lone R.mir) m)
    → (b ν : ℕ) (δ : GName) (zs : List R.Denot) → ((v : Val) → Is (Array R m) zs (v ∷ []) → Seq K 𝓛 (‵ (fat full_share (ty_array τ m) b 0 v) ∷ Γ) G)
    → Seq K 𝓛 (‵ (flft (ν ∷ []) full_share) ∷ ‵ (flent (ν ∷ []) (Held R m b 0 δ)) ∷ ‵ (finally R δ zs) ∷ Γ) G
unfolding part_of
backs_array {𝓤 = 𝓤} {𝓛 = 𝓛} t z R τ m same b ν δ zs k =
    lft_end t z $ use3 𝓛 (later (‵ ((Arr (mem R) m).own_at zs b 0))) (slice_back 𝓛 R (ν ∷ []) δ zs m b 0) $ await t z $ fsplit t $ move t (1 ∷ []) $ use1 𝓛 (‵ (row R full_share zs b 0)) (whole_out 𝓛 R zs b 0) $ move t (1 ∷ 0 ∷ []) $ fjoin t $
    use1 𝓛 (‵ (part_at (Array R m) full_share zs b 0)) (Array-whole 𝓛 R full_share m zs b 0) $ fpick t (λ vs. fsplit t $ move t (1 ∷ []) $ peeks t (Array R m) (Is (Array R m)) (shows 𝓛 (Array R m)) zs vs (λ p. drop t $
    rewrite t 0 (λ (us : List Val). ‵ (cell_at full_share (Array R m).mir us b 0)) p.1.0.0 refl $
    rewrite t 0 (λ (σ : Ty). ‵ (fat full_share σ b 0 (array_val p.0))) (sym same) refl $
    use1 𝓛 (‵ (fat full_share (ty_array τ m) b 0 (array_val p.0))) (𝓛.laws.raw_at full_share (ty_array τ m) b 0 (array_val p.0)) $ k (array_val p.0) (subst (Is (Array R m) zs) p.1.0.0 p)))
