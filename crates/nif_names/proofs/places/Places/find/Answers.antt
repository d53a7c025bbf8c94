use Rattle.std.proofs.Common.{rules, ◌≡◌, ℕ, ◌<◌, length, position, bytes_eq, IfSome, Option, subst, sym}
use Rattle.nif_names.proofs.PlaceLemmas.{found_at}
use Rattle.nif_names.proofs.places.Places.find.Goals as goal

pub returns-clause-within : goal.returns-clause-within
returns-clause-within c =
    let s = c.args.self.now in
    let is : c.copied.result ≡ position (bytes_eq c.args.name.now) s = search rules in
    subst (λ (o : Option ℕ). IfSome o (λ place. place < length s)) (sym is) (found_at (bytes_eq c.args.name.now) s)
