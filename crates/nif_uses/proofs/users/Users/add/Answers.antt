use Rattle.std.proofs.Common.{◌≡◌, [], ◌∷◌, ◌++◌, Some, length, set, arith, refl, sym, subst}
use Rattle.std.proofs.lemmas.Option.{slice_get_read}
use Rattle.nif_uses.specs.declared.users.Link.{Link}
use Rattle.nif_uses.specs.Users.{IsLinked}
use Rattle.nif_uses.proofs.Links.{linked-add}
use Rattle.nif_uses.proofs.users.Users.add.Goals as goal

pub returns-clause-linked : goal.returns-clause-linked
returns-clause-linked c =
    let latest = c.args.self.now.latest.items in
    let links = c.args.self.now.links.items in
    let before = c.index-before.result.now in
    let link : Link = record { used = c.args.used; user = c.args.user; before = before } in
    let at = slice_get_read latest (length latest) c.args.used before refl c.requires.within c.index-before.ensures in
    let there : c.push.new.self.items ≡ links ++ link ∷ [] = c.in-Ok.ensures.items in
    let place : length links ≡ c.len-place.result = omega (arith, c.len-place.ensures) in
    subst (λ all. IsLinked (set latest c.args.used (Some c.len-place.result)) all) (sym there)
    (subst (λ n. IsLinked (set latest c.args.used (Some n)) (links ++ link ∷ [])) place (linked-add latest links link c.requires.linked at))
