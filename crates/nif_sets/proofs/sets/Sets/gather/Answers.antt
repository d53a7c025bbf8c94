use Rattle.std.proofs.Common.{◌<◌, [], ◌∷◌, length, sym, subst, ap, ◌∙◌, arith}
use Rattle.std.proofs.lemmas.List.{append-nil}
use Rattle.std.proofs.lemmas.List.Elements.{All-cons, All-nil, All-weaker}
use Rattle.nif_sets.specs.Sets.{IsSet, IsBelow, types_of}
use Rattle.nif_sets.proofs.SetLemmas.{IsBelow-more}
use Rattle.nif_sets.proofs.LikeLemmas.{IsLike-more}
use Rattle.nif_sets.proofs.sets.Sets.gather.Goals as goal

pub returns-in-Ok : goal.returns-in-Ok
returns-in-Ok c = λ yes sets like.
    let old = c.args.self.now in
    IsLike-more old c.args.flat.now.keys c.add_all.new.to.keys (c.args.set ∷ []) c.args.set c.in-Ok.ensures
    (All-cons (IsSet old) c.args.set [] c.requires (All-nil (IsSet old))) (sym (append-nil (types_of old c.args.set))) sets like

pub returns-in-Ok-add_all : goal.returns-in-Ok-add_all
returns-in-Ok-add_all c = λ yes sets like.
    let old = c.args.self.now in
    let number = c.in-Joined.number in
    let own = c.parts_of-own.result.now in
    let lt : number < length old.parts = subst (λ s. IsSet old s) c.in-Joined.is c.requires in
    IsLike-more old c.args.flat.now.keys c.add_all-in-Joined.new.to.keys own c.args.set c.in-Ok-add_all.ensures
    (All-weaker (IsBelow number) (IsSet old) (λ x h. IsBelow-more number (length old.parts) x (omega (arith, lt)) h) own c.parts_of-own.ensures.before)
    (ap (types_of old) c.in-Joined.is ∙ c.parts_of-own.ensures.types) sets like
