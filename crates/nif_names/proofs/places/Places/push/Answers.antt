use Rattle.std.proofs.Common.{rules, ◌≡◌, ℕ, Vec, Global, List, Some, None, ◌∷◌, ◌++◌, [], length, map, position, bytes_eq, sym, ap, subst, ◌∙◌}
use Rattle.std.proofs.lemmas.List.{map-append, length-map}
use Rattle.std.specs.Ordering.{nat_cmp}
use Rattle.std.specs.Cmp.Lexicographic.{slice_cmp}
use Rattle.std.specs.BTreeMap.{UpdatesBy}
use Rattle.nif_names.specs.Kept.{ArePlaced}
use Rattle.nif_names.proofs.PlaceLemmas.{ArePlaced-push}
use Rattle.nif_names.proofs.places.Places.push.Goals as goal

pub invariant_of-self-in-Ok-insert : goal.invariant_of-self-in-Ok-insert
invariant_of-self-in-Ok-insert c =
    let bytes : Vec ℕ Global → List ℕ = λ n. n.items in
    let old = c.self.inside.names.items in
    let absent : position (bytes_eq c.args.name.now) (map bytes old) ≡ None = ap (position (bytes_eq c.args.name.now)) c.self.view_is ∙ c.requires in
    let pushed : map bytes c.push_reserved.new.self.items ≡ map bytes old ++ c.args.name.now ∷ [] =
    ap (map bytes) (c.push_reserved.ensures.items ∙ ap (λ ns. ns ++ c.in-Ok-from_slice.same ∷ []) c.reserve.ensures.items)
    ∙ map-append bytes old (c.in-Ok-from_slice.same ∷ []) ∙ ap (λ n. map bytes old ++ n ∷ []) c.in-Ok-from_slice.ensures.items in
    let count : c.len.result ≡ length old = search rules in
    let number : c.len.result ≡ length (map bytes old) = count ∙ sym (length-map old bytes) in
    subst (λ ns. ArePlaced ns c.insert.new.self) (sym pushed)
    (ArePlaced-push (map bytes old) c.args.name.now c.self.inside.places c.insert.new.self c.in-Ok.own c.self.invariant c.in-Ok.ensures.items absent
    (subst (λ n. UpdatesBy (λ (x : Vec ℕ Global) (y : Vec ℕ Global). slice_cmp nat_cmp x.items y.items) (λ (y : Vec ℕ Global). slice_cmp nat_cmp c.in-Ok.own.items y.items)
    c.self.inside.places c.insert.new.self (Some n)) number c.in-Ok-insert.ensures.updates))
