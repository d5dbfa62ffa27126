-- The handles that a list of objects holds, behind each of the list operations.
use mathlib.Core.Path.{◌≡◌, refl, sym}
use Prim.Native.Nat.{ℕ, zero, suc, ◌-◌}
use mathlib.Core.Logic.{◌⊎◌, inl, inr}
use mathlib.Core.List.Memᴰ
use mathlib.Core.List.{List, [], ◌∷◌, ◌++◌, Memᴰ}
use lib.ListN.{length, take, get_or, set}
use Rattle.isolation.proofs.Simulation.{none_some}
use Rattle.sessions.specs.View.{Entry, blank_entry, place_in, held_at, find_in, put_entry, put_in, drop_at, drop_in}
use Rattle.agent.specs.Local.{entry_handle}
use Rattle.agent.specs.Rules.{held_as, handles_held}
use Rattle.std.specs.Prelude.{None, Some, Option}

abbrev Pairs : Type 0
Pairs = List (ℕ × ℕ)

-- ---- one object in front of others

pub under : (n : ℕ) (x : Option ℕ) (more : Pairs) (y : ℕ × ℕ) → Memᴰ y more → Memᴰ y (held_as n x more)
under n None more y m = m
under n (Some h) more y m = Memᴰ.tail m

pub here : (n h : ℕ) (x : Option ℕ) (more : Pairs) → x ≡ Some h → Memᴰ (n, h) (held_as n x more)
here n h None more e = absurd (none_some e)
here n h (Some k) more e = let z : k ≡ h = cc in Memᴰ.head (λ i. (n, sym z i))

pub split : (n : ℕ) (x : Option ℕ) (more : Pairs) (y : ℕ × ℕ) → Memᴰ y (held_as n x more) → ((h : ℕ) × (x ≡ Some h) × (y ≡ (n, h))) ⊎ Memᴰ y more
split n None more y m = inr m
split n (Some h) more y m = go (Memᴰ.cases_cons m)
  where
    go : (y ≡ (n, h)) ⊎ Memᴰ y more → ((k : ℕ) × (Some h ≡ Some k) × (y ≡ (n, k))) ⊎ Memᴰ y more
    go (inl e) = inl (h, refl, e)
    go (inr m) = inr m

pub mono : (n : ℕ) (x : Option ℕ) (a b : Pairs) → ((y : ℕ × ℕ) → Memᴰ y a → Memᴰ y b) → (y : ℕ × ℕ) → Memᴰ y (held_as n x a) → Memᴰ y (held_as n x b)
mono n x a b f y m = go (split n x a y m)
  where
    go : ((h : ℕ) × (x ≡ Some h) × (y ≡ (n, h))) ⊎ Memᴰ y a → Memᴰ y (held_as n x b)
    go (inl (h, p, q)) = Memᴰ.cast q (here n h x b p)
    go (inr m) = under n x b y (f y m)

-- an object e that came in behind x
past : (x e : Entry) (a b : Pairs) → ((y : ℕ × ℕ) → Memᴰ y a → Memᴰ y (held_as e.number e.handle b)) → (y : ℕ × ℕ)
    → Memᴰ y (held_as x.number x.handle a) → Memᴰ y (held_as e.number e.handle (held_as x.number x.handle b))
past x e a b f y m = go (split x.number x.handle a y m)
  where
    go : ((h : ℕ) × (x.handle ≡ Some h) × (y ≡ (x.number, h))) ⊎ Memᴰ y a → Memᴰ y (held_as e.number e.handle (held_as x.number x.handle b))
    go (inl (h, p, q)) = under e.number e.handle _ y (Memᴰ.cast q (here x.number h x.handle b p))
    go (inr m) = mono e.number e.handle b _ (λ z k. under x.number x.handle b z k) y (f y m)

-- ---- the operations on lists

pub get_d_held : (es : List Entry) (i h : ℕ) → (get_or es i blank_entry).handle ≡ Some h → Memᴰ ((get_or es i blank_entry).number, h) (handles_held es)
get_d_held [] i h e = absurd (none_some e)
get_d_held (x ∷ es) zero h e = here x.number h x.handle (handles_held es) e
get_d_held (x ∷ es) (suc i) h e = under x.number x.handle (handles_held es) _ (get_d_held es i h e)

set_held : (es : List Entry) (i : ℕ) (e : Entry) (y : ℕ × ℕ) → Memᴰ y (handles_held (set es i e)) → Memᴰ y (held_as e.number e.handle (handles_held es))
set_held [] i e y m = absurd (Memᴰ.not-nil m)
set_held (x ∷ es) zero e y m = mono e.number e.handle (handles_held es) _ (λ z k. under x.number x.handle (handles_held es) z k) y m
set_held (x ∷ es) (suc i) e y m = past x e (handles_held (set es i e)) (handles_held es) (λ z k. set_held es i e z k) y m

append_held : (es : List Entry) (e : Entry) (y : ℕ × ℕ) → Memᴰ y (handles_held (es ++ (e ∷ []))) → Memᴰ y (held_as e.number e.handle (handles_held es))
append_held [] e y m = m
append_held (x ∷ es) e y m = past x e (handles_held (es ++ (e ∷ []))) (handles_held es) (λ z k. append_held es e z k) y m

take_held : (k : ℕ) (es : List Entry) (y : ℕ × ℕ) → Memᴰ y (handles_held (take k es)) → Memᴰ y (handles_held es)
take_held zero es y m = absurd (Memᴰ.not-nil m)
take_held (suc k) [] y m = m
take_held (suc k) (x ∷ es) y m = mono x.number x.handle (handles_held (take k es)) (handles_held es) (λ z n. take_held k es z n) y m

-- a put lists the object's own handle and no other
pub put_held : (es : List Entry) (e : Entry) (y : ℕ × ℕ) → Memᴰ y (handles_held (put_in es e)) → Memᴰ y (held_as e.number e.handle (handles_held es))
put_held es e y m = go (place_in es e.number) m
  where
    go : (p : Option ℕ) → Memᴰ y (handles_held (put_entry es p e)) → Memᴰ y (held_as e.number e.handle (handles_held es))
    go (Some i) m = set_held es i e y m
    go None m = append_held es e y m

-- a drop lists no other
pub drop_held : (es : List Entry) (n : ℕ) (y : ℕ × ℕ) → Memᴰ y (handles_held (drop_in es n)) → Memᴰ y (handles_held es)
drop_held es n y m = go (place_in es n) m
  where
    last : Entry
    last = get_or es (length es - 1) blank_entry

    pick : ((h : ℕ) × (last.handle ≡ Some h) × (y ≡ (last.number, h))) ⊎ Memᴰ y (handles_held es) → Memᴰ y (handles_held es)
    pick (inl (h, p, q)) = Memᴰ.cast q (get_d_held es (length es - 1) h p)
    pick (inr m) = m

    go : (p : Option ℕ) → Memᴰ y (handles_held (drop_at es p)) → Memᴰ y (handles_held es)
    go (Some i) m = pick (split last.number last.handle (handles_held es) y (set_held es i last y (take_held (length es - 1) (set es i last) y m)))
    go None m = m

-- a handle that is found is held
abbrev pub Holds : List Entry → ℕ → Type 0
Holds es h = (n : ℕ) × Memᴰ (n, h) (handles_held es)

pub find_held : (es : List Entry) (n h : ℕ) → entry_handle (find_in es n) ≡ Some h → Holds es h
find_held es n h e = go (place_in es n) e
  where
    go : (p : Option ℕ) → entry_handle (held_at es p) ≡ Some h → Holds es h
    go (Some i) e = ((get_or es i blank_entry).number, get_d_held es i h e)
    go None e = absurd (none_some e)
