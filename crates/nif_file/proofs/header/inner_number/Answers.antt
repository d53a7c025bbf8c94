use Rattle.std.proofs.Common.{◌≡◌, ◌+◌, ◌∙◌, ap, sym, codes, false, map, true≢false}
use Rattle.std.specs.Prelude.{bytes_eq}
use Rattle.std.specs.Option.{unwrap_or}
use Rattle.nif_schema.specs.Declaration.{field}
use Rattle.nif_file.specs.Heads.{place_in}
use Rattle.nif_file.proofs.Noting.{inner_there, inner_kept}
use Rattle.nif_file.proofs.header.inner_number.Goals as goal

pub returns-then-not-is_name : goal.returns-then-not-is_name
returns-then-not-is_name c = λ header held at is roles found there kept member named.
    let other : bytes_eq (codes "BS Header") c.args.of.now.name ≡ false =
    ap (λ w. bytes_eq w c.args.of.now.name) (sym c.as_slice.ensures) ∙ ap (bytes_eq c.as_slice.result.now) (sym c.bytes.ensures) ∙ sym c.is_name.ensures ∙ c.if-not-is_name.true in
    absurd (true≢false (sym named ∙ other))

pub returns-in_default-place_of : goal.returns-in_default-place_of
returns-in_default-place_of c = λ header held at is roles found there kept member named.
    absurd (inner_there c.args.schema.now is roles (field c.args.of.now) c.args.place there named c.in-Some.number c.decl.result.now (sym c.named.ensures.value ∙ c.in-Some.is) c.decl.ensures c.place_of.result
    (c.place_of.ensures ∙ ap (λ n. place_in n (map field c.decl.result.now.fields)) c.as_slice-2.ensures) c.in_default-place_of.is)

pub returns : goal.returns
returns c = λ header held at is roles found there kept member named.
    c.unwrap_or.ensures ∙ ap (λ o. unwrap_or o 0) (c.number_at.ensures c.args.schema.now header (c.args.place + 1) held kept)
    ∙ inner_kept c.args.schema.now is roles (field c.args.of.now) c.args.place there named c.in-Some.number c.decl.result.now (sym c.named.ensures.value ∙ c.in-Some.is) c.decl.ensures c.place_of.result
    (c.place_of.ensures ∙ ap (λ n. place_in n (map field c.decl.result.now.fields)) c.as_slice-2.ensures) held c.args.place at c.in-Some-place_of.inner member c.in-Some-place_of.is
