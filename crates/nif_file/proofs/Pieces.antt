-- The parts of a file that are no values: the type of a block, its zero word, its size, and the end.
use Rattle.std.proofs.Common.{◌≡◌, ◌≢◌, ℕ, ◌+◌, ◌⊎◌, inl, inr, Bool, true, false, Option, Some, None, IfSome, List, [], ◌∷◌, length, take, refl, sym, ◌∙◌, ap, subst, arith}
use Rattle.std.proofs.lemmas.Bool.{cases_eq}
use Rattle.nif_base.specs.Node.{Node, text, number, is_little}
use Rattle.nif_layout.specs.Earlier.{Env}
use Rattle.nif_layout.specs.Fault.{Point, Passes}
use Rattle.nif_layout.specs.LeafFault.{shortage, number_at}
use Rattle.nif_layout.specs.PassLaws.{one_point}
use Rattle.nif_layout.specs.RoomLaws.{no_shortage}
use Rattle.nif_layout.specs.ByteLaws.{number_taken}
use Rattle.nif_layout.specs.RoomLaws.{Enough, enough, skip, passes_skip}
use Rattle.nif_file.specs.declared.faults.FileFault.TheVariants as file
use Rattle.nif_file.specs.Stops.{Stop, of_value}
use Rattle.nif_file.specs.Head.{order_in, version_in, stated_size}
use Rattle.nif_file.specs.Files.{has_zero_word, zero_where, zero_word, HasSize}
use Rattle.nif_file.specs.FileFails.{PartFails, ZeroFailsBy, ZeroFails, SizeFails, IsTrailing}
use Rattle.nif_file.proofs.Walks.{Within, Sound, within_behind, none_some, some_same}

pub passes_none : (at : Point) → Within at → Passes [] 0 at at
passes_none at w = record { here = refl; place = omega arith; nodes = omega arith; within = w.place; counted = w.nodes }

-- ---- so many bytes

pub part_excludes : (total : ℕ) (s : List ℕ) (k n : ℕ) (at next : Point) (stop : Stop) → length s ≡ k → Passes s n at next → PartFails total k at stop → ⊥
part_excludes total s k n at next stop len p bad =
    let none : shortage k at ≡ None = rw len at (no_shortage s n at next p) in none_some (shortage k at) bad.0 none bad.1

pub part_one : (total k : ℕ) (at : Point) (s t : Stop) → PartFails total k at s → PartFails total k at t → s ≡ t
part_one total k at s t a b =
    let e : a.0 ≡ b.0 = some_same (shortage k at) a.0 b.0 a.1 b.1 in a.2 ∙ ap (of_value total) e ∙ sym b.2

-- ---- the zero word

zeros : (little : Bool) → number little 4 0 ≡ 0 ∷ 0 ∷ 0 ∷ 0 ∷ []
zeros true = refl
zeros false = refl

zero_value : (little : Bool) (rest : List ℕ) → number_at little 4 (0 ∷ 0 ∷ 0 ∷ 0 ∷ rest) ≡ 0
zero_value true rest = refl
zero_value false rest = refl

pub zero_sound : (total : ℕ) (E : Env) (k : ℕ) → Sound {X = Unit {0}} (λ u at next. Passes (zero_word E) 0 at next) (ZeroFails total E k)
zero_sound total E k = by (has_zero_word (version_in E))
  where
    by : (b : Bool) → Sound {X = Unit {0}} (λ u at next. Passes (zero_where b) 0 at next) (ZeroFailsBy b total E k)
    by false = record {
      stays = λ u at next w p. within_behind [] 0 at next w p;
      excludes = λ u at next s w p bad. bad;
      same = λ u v at p q w r t. (refl, one_point [] 0 at p q r t);
      one = λ at s t w a b. absurd a;
      decides = λ at w. inl (tt, at, passes_none at w);
    }
    by true = record {
      stays = λ u at next w p. within_behind (0 ∷ 0 ∷ 0 ∷ 0 ∷ []) 0 at next w p;
      excludes = excludes;
      same = λ u v at p q w r t. (refl, one_point (0 ∷ 0 ∷ 0 ∷ 0 ∷ []) 0 at p q r t);
      one = one;
      decides = decides;
    }
      where
        little : Bool
        little = is_little (order_in E)

        excludes : (u : Unit {0}) (at next : Point) (s : Stop) → Within at → Passes (0 ∷ 0 ∷ 0 ∷ 0 ∷ []) 0 at next → ZeroFailsBy true total E k at s → ⊥
        excludes u at next s w p (inl bad) = part_excludes total (0 ∷ 0 ∷ 0 ∷ 0 ∷ []) 4 0 at next s refl p bad
        excludes u at next s w p (inr bad) = bad.1 (ap (λ l. number_at little 4 l) p.here ∙ zero_value little next.left)

        one : (at : Point) (s t : Stop) → Within at → ZeroFailsBy true total E k at s → ZeroFailsBy true total E k at t → s ≡ t
        one at s t w (inl a) (inl b) = part_one total 4 at s t a b
        one at s t w (inl a) (inr b) = absurd (none_some (shortage 4 at) a.0 b.0 a.1)
        one at s t w (inr a) (inl b) = absurd (none_some (shortage 4 at) b.0 a.0 b.1)
        one at s t w (inr a) (inr b) = a.2 ∙ sym b.2

        decides : (at : Point) → Within at → ((u : Unit {0}) × (next : Point) × Passes (0 ∷ 0 ∷ 0 ∷ 0 ∷ []) 0 at next) ⊎ ((s : Stop) × ZeroFailsBy true total E k at s)
        decides at w = found (enough 4 at)
          where
            found : Enough 4 at → ((u : Unit {0}) × (next : Point) × Passes (0 ∷ 0 ∷ 0 ∷ 0 ∷ []) 0 at next) ⊎ ((s : Stop) × ZeroFailsBy true total E k at s)
            found (inl r) = inr (of_value total r.0, inl (r.0, r.1, refl))
            found (inr r) = elim (cases_eq (number_at little 4 at.left) 0) [
              | inl is ↦
                  let t = number_taken little 4 at.left w.bytes r.1 in
                  let e : 0 ∷ 0 ∷ 0 ∷ 0 ∷ [] ≡ take 4 at.left = sym (zeros little) ∙ ap (λ n. number little 4 n) (sym is) ∙ t.0 in
                  inl (tt, skip 4 at, passes_skip 4 at (0 ∷ 0 ∷ 0 ∷ 0 ∷ []) e r.1 r.2 w.nodes)
              | inr other ↦ inr (record { fault = file.CheckWord k (number_at little 4 at.left); known = at.place + 4 }, inr (r.0, other, refl))
            ]

-- ---- the size, and the end

pub size_sound : (E : Env) (k : ℕ) (value : Node) → Sound {X = Unit {0}} (λ u at next. HasSize E k value × (next ≡ at)) (SizeFails E k value)
size_sound E k value = by (stated_size E k)
  where
    used : ℕ
    used = length (text (order_in E) value)

    by : (o : Option ℕ) → Sound {X = Unit {0}} (λ u at next. IfSome o (λ stated. stated ≡ used) × (next ≡ at))
        (λ at stop. (stated : ℕ) × (o ≡ Some stated) × (stated ≢ used) × (stop ≡ record { fault = file.BlockSize k stated used; known = at.place }))
    by None = record {
      stays = λ u at next w r. subst (λ (p : Point). Within p) (sym r.1) w;
      excludes = λ u at next s w r bad. let e = bad.1 in absurd (cc);
      same = λ u v at p q w r t. (refl, r.1 ∙ sym t.1);
      one = λ at s t w a b. let e = a.1 in absurd (cc);
      decides = λ at w. inl (tt, at, (tt, refl));
    }
    by (Some n) = record {
      stays = λ u at next w r. subst (λ (p : Point). Within p) (sym r.1) w;
      excludes = λ u at next s w r bad. let same : n ≡ bad.0 = some_same (Some n) n bad.0 refl bad.1 in bad.2 (sym same ∙ r.0);
      same = λ u v at p q w r t. (refl, r.1 ∙ sym t.1);
      one = λ at s t w a b.
          let e : a.0 ≡ b.0 = some_same (Some n) a.0 b.0 a.1 b.1 in
          let f : ℕ → Stop = λ m. record { fault = file.BlockSize k m used; known = at.place } in
          a.3 ∙ ap f e ∙ sym b.3;
      decides = λ at w. elim (cases_eq n used) [
        | inl is ↦ inl (tt, at, (is, refl))
        | inr other ↦ inr (record { fault = file.BlockSize k n used; known = at.place }, (n, refl, other, refl))
      ];
    }

pub end_sound : Sound {X = Unit {0}} (λ u at next. (at.left ≡ []) × (next ≡ at)) IsTrailing
end_sound = record {
  stays = λ u at next w r. subst (λ (p : Point). Within p) (sym r.1) w;
  excludes = λ u at next s w r bad. bad.0 r.0;
  same = λ u v at p q w r t. (refl, r.1 ∙ sym t.1);
  one = λ at s t w a b. a.1 ∙ sym b.1;
  decides = λ at w. by at at.left refl;
}
  where
    by : (at : Point) (l : List ℕ) → at.left ≡ l → ((u : Unit {0}) × (next : Point) × ((at.left ≡ []) × (next ≡ at))) ⊎ ((s : Stop) × IsTrailing at s)
    by at [] e = inl (tt, at, (e, refl))
    by at (b ∷ l) e = inr (record { fault = file.Trailing at.place; known = at.place + 1 }, ((λ none. let bad = sym e ∙ none in absurd (cc)), refl))
