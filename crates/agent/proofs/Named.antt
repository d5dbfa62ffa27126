-- W7's promise, proved: a Topic's names are read exactly where two texts stand, one behind the other.
use Prim.Native.Nat.{ℕ, ◌+◌}
use mathlib.Core.Path.{◌≡◌, refl, sym, ap, ◌∙◌, subst}
use mathlib.Core.List.{List}
use native.Mathlib.Omega.{arith}
use lib.ListN.{drop}
use Rattle.codec.specs.Answers.{string_answer}
use Rattle.codec.specs.Bytes.{AllBytes, word_at}
use Rattle.codec.specs.Grammar.{IsString}
use Rattle.codec.specs.Reading.{part_of}
use Rattle.codec.specs.Strings.{span_at, string_at}
use Rattle.codec.specs.declared.layouts.Span.{Span}
use Rattle.codec.proofs.strings.Theorems.{read_there, part_there, behind_there, only_text}
use Rattle.agent.specs.Local.{handle_at}
use Rattle.agent.specs.RulesObjects.{Names, type_behind, names_from, names_of, create_named}
use Rattle.agent.specs.Named.{Named, NamesExactly}
use Rattle.std.specs.Prelude.{Err, Ok, Result, Option, None, Some}
use Rattle.codec.specs.declared.refusals.Refusal.{Refusal}

-- ---- two texts are read

names_read : (body name type : List ℕ) → Named body name type → names_of body ≡ Some (record { name = name; type = type })
unfolding names_of
names_read body name type n =
    let at = 0 + 2 + word_at body 0 in
    let second : IsString type n.ignored (drop at body) = subst (IsString type n.ignored) (sym (behind_there body 0 name n.behind_name n.first)) n.second in
    ap (names_from body) (read_there body 0 name n.behind_name n.first)
    ∙ ap (type_behind body (span_at body 0)) (read_there body at type n.ignored second)
    ∙ rw (part_there body 0 name n.behind_name n.first, part_there body at type n.ignored second)

-- ---- and nothing else is

names_only : (body : List ℕ) → AllBytes body → (x : Names) → names_of body ≡ Some x → Named body x.name x.type
unfolding names_of
names_only body small x e = by (string_at body 0) refl e
  where
    behind : (n : Span) → string_at body 0 ≡ Ok n → (r : Result Span Refusal) → string_at body (n.start + n.len) ≡ r → type_behind body n r ≡ Some x → Named body x.name x.type
    behind n f (Ok t) g e =
        let same : ◌≡◌ {A = Names} (record { name = part_of body n; type = part_of body t }) x = cc in
        rw (← same)
        (record {
          behind_name = drop (n.start + n.len) body;
          ignored = drop (t.start + t.len) body;
          first = (only_text body 0 small n (ap string_answer f)).1;
          second = (only_text body (n.start + n.len) small t (ap string_answer g)).1;
        })
    behind n f (Err r) g e = let z : ◌≡◌ {A = ℕ} 0 1 = cc in absurd (omega arith)

    by : (r : Result Span Refusal) → string_at body 0 ≡ r → names_from body r ≡ Some x → Named body x.name x.type
    by (Ok n) f e = behind n f (string_at body (n.start + n.len)) refl e
    by (Err r) f e = let z : ◌≡◌ {A = ℕ} 0 1 = cc in absurd (omega arith)

-- ---- the rule

pub names_exactly : NamesExactly
names_exactly stream number parent body small l =
    record {
      full_first = λ f. rw f;
      named = λ f d p h name type n. rw (f, d, names_read body name type n, h);
      unnamed = λ f d none-there. rw (f, d) (unread (names_of body) refl none-there);
      orphan = λ f d h. rw (f, d) (alone (names_of body) h);
    }
  where
    unread : (x : Option Names) → names_of body ≡ x → ((name type : List ℕ) → Named body name type → ⊥) → create_named x stream number parent l ≡ create_named None stream number parent l
    unread None e n = refl
    unread (Some x) e n = absurd (n x.name x.type (names_only body small x e))

    alone : (x : Option Names) → handle_at parent l ≡ None → create_named x stream number parent l ≡ create_named None stream number parent l
    alone None h = refl
    alone (Some x) h = rw h
