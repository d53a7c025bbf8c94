use Rattle.std.proofs.Common.{Option, refl, ap, subst}
use Rattle.std.specs.Prelude.{IfSome}
use Rattle.nif_base.specs.Node.{Node}
use Rattle.nif_schema.specs.Schema.{Schema, IsSchema}
use Rattle.nif_region.specs.Contents.{find}
use Rattle.nif_value.specs.Trees.{Trees}
use Rattle.nif_lists.specs.Lists.{AreListsOf}
use Rattle.nif_file.specs.Files.{head_of, members_of}
use Rattle.nif_file.specs.HeaderReading.{HasHeader, HasNoHeader}
use Rattle.nif_file_reader.proofs.Whole.{has_parts, knows, no_header, no_rest, rest_went}
use Rattle.nif_file_reader.proofs.files.read_parts.Goals as goal

pub returns-in-Err-clause-parts : goal.returns-in-Err-clause-parts
returns-in-Err-clause-parts g c =
    let bad = subst (λ (s : Schema). HasNoHeader g.S.Source.left g.S.Source.still g.S.Source.read_faults s c.args.taker.now c.read_header.new.taker c.in-Err.fault) c.schema-schema.ensures.same c.in-Err.ensures.reads.0 in
    no_header g.S.Source.left g.S.Source.still g.S.Source.read_faults c.args.checked.now c.args.taker.now c.read_header.new.taker c.in-Err.fault bad

pub read_rest-requires-clause-knows : goal.read_rest-requires-clause-knows
read_rest-requires-clause-knows g c =
    let S = c.args.checked.now in
    let same = c.schema-schema.ensures.same in
    let h = subst (λ (s : Schema). HasHeader g.S.Source.left g.S.Source.still g.S.Source.read_faults s c.args.taker.now c.read_header.new.taker c.new-store.result c.read_header.new.store c.in-Ok.header) same c.in-Ok.ensures.reads in
    let E = head_of S h.members in
    let said = subst (λ (s : Schema). IfSome (find c.read_header.new.store.trees c.in-Ok.header.tree.run.key) (λ node. AreListsOf s (head_of s (members_of node)) c.in-Ok-read_lists.lists)) same c.in-Ok-read_lists.ensures in
    let are = subst (λ (o : Option Node). IfSome o (λ node. AreListsOf S (head_of S (members_of node)) c.in-Ok-read_lists.lists)) h.found said in
    let k = knows g.S.Source.left g.S.Source.still g.S.Source.read_faults S c.args.taker.now c.read_header.new.taker c.new-store.result c.read_header.new.store c.in-Ok.header h c.requires.first c.in-Ok-read_lists.lists (subst IsSchema same c.count-declarations.ensures.schema) c.schema-schema.ensures.roles are in
    (h.members, k)

pub returns-in-Err-read_rest-clause-went : goal.returns-in-Err-read_rest-clause-went
returns-in-Err-read_rest-clause-went g c =
    let S = c.args.checked.now in
    let same = c.schema-schema.ensures.same in
    let h = subst (λ (s : Schema). HasHeader g.S.Source.left g.S.Source.still g.S.Source.read_faults s c.args.taker.now c.read_header.new.taker c.new-store.result c.read_header.new.store c.in-Ok.header) same c.in-Ok.ensures.reads in
    let E = head_of S h.members in
    let said = subst (λ (s : Schema). IfSome (find c.read_header.new.store.trees c.in-Ok.header.tree.run.key) (λ node. AreListsOf s (head_of s (members_of node)) c.in-Ok-read_lists.lists)) same c.in-Ok-read_lists.ensures in
    let are = subst (λ (o : Option Node). IfSome o (λ node. AreListsOf S (head_of S (members_of node)) c.in-Ok-read_lists.lists)) h.found said in
    let k = knows g.S.Source.left g.S.Source.still g.S.Source.read_faults S c.args.taker.now c.read_header.new.taker c.new-store.result c.read_header.new.store c.in-Ok.header h c.requires.first c.in-Ok-read_lists.lists (subst IsSchema same c.count-declarations.ensures.schema) c.schema-schema.ensures.roles are in
    (no_rest g.S.Source.left g.S.Source.still g.S.Source.read_faults S c.args.taker.now c.read_header.new.taker c.new-store.result c.read_header.new.store c.in-Ok.header h c.requires.first c.read_rest.new.taker c.in-Err-read_rest.fault (c.in-Err-read_rest.ensures.err h.members k)).1

pub returns-in-Err-read_rest-clause-parts : goal.returns-in-Err-read_rest-clause-parts
returns-in-Err-read_rest-clause-parts g c =
    let S = c.args.checked.now in
    let same = c.schema-schema.ensures.same in
    let h = subst (λ (s : Schema). HasHeader g.S.Source.left g.S.Source.still g.S.Source.read_faults s c.args.taker.now c.read_header.new.taker c.new-store.result c.read_header.new.store c.in-Ok.header) same c.in-Ok.ensures.reads in
    let E = head_of S h.members in
    let said = subst (λ (s : Schema). IfSome (find c.read_header.new.store.trees c.in-Ok.header.tree.run.key) (λ node. AreListsOf s (head_of s (members_of node)) c.in-Ok-read_lists.lists)) same c.in-Ok-read_lists.ensures in
    let are = subst (λ (o : Option Node). IfSome o (λ node. AreListsOf S (head_of S (members_of node)) c.in-Ok-read_lists.lists)) h.found said in
    let k = knows g.S.Source.left g.S.Source.still g.S.Source.read_faults S c.args.taker.now c.read_header.new.taker c.new-store.result c.read_header.new.store c.in-Ok.header h c.requires.first c.in-Ok-read_lists.lists (subst IsSchema same c.count-declarations.ensures.schema) c.schema-schema.ensures.roles are in
    (no_rest g.S.Source.left g.S.Source.still g.S.Source.read_faults S c.args.taker.now c.read_header.new.taker c.new-store.result c.read_header.new.store c.in-Ok.header h c.requires.first c.read_rest.new.taker c.in-Err-read_rest.fault (c.in-Err-read_rest.ensures.err h.members k)).0

pub returns-clause-went : goal.returns-clause-went
returns-clause-went g c =
    let S = c.args.checked.now in
    let same = c.schema-schema.ensures.same in
    let h = subst (λ (s : Schema). HasHeader g.S.Source.left g.S.Source.still g.S.Source.read_faults s c.args.taker.now c.read_header.new.taker c.new-store.result c.read_header.new.store c.in-Ok.header) same c.in-Ok.ensures.reads in
    let E = head_of S h.members in
    let said = subst (λ (s : Schema). IfSome (find c.read_header.new.store.trees c.in-Ok.header.tree.run.key) (λ node. AreListsOf s (head_of s (members_of node)) c.in-Ok-read_lists.lists)) same c.in-Ok-read_lists.ensures in
    let are = subst (λ (o : Option Node). IfSome o (λ node. AreListsOf S (head_of S (members_of node)) c.in-Ok-read_lists.lists)) h.found said in
    let k = knows g.S.Source.left g.S.Source.still g.S.Source.read_faults S c.args.taker.now c.read_header.new.taker c.new-store.result c.read_header.new.store c.in-Ok.header h c.requires.first c.in-Ok-read_lists.lists (subst IsSchema same c.count-declarations.ensures.schema) c.schema-schema.ensures.roles are in
    rest_went g.S.Source.left g.S.Source.still g.S.Source.read_faults S c.args.taker.now c.read_header.new.taker c.new-store.result c.read_header.new.store c.in-Ok.header h c.requires.first c.in-Ok-read_lists.lists k c.read_rest.new.bounds.nodes c.read_rest.new.taker c.read_rest.new.store
    c.in-Ok-read_rest.rest.0 c.in-Ok-read_rest.rest.1 (c.in-Ok-read_rest.ensures.ok h.members k)

pub returns-clause-parts : goal.returns-clause-parts
returns-clause-parts g c =
    let S = c.args.checked.now in
    let same = c.schema-schema.ensures.same in
    let h = subst (λ (s : Schema). HasHeader g.S.Source.left g.S.Source.still g.S.Source.read_faults s c.args.taker.now c.read_header.new.taker c.new-store.result c.read_header.new.store c.in-Ok.header) same c.in-Ok.ensures.reads in
    let E = head_of S h.members in
    let said = subst (λ (s : Schema). IfSome (find c.read_header.new.store.trees c.in-Ok.header.tree.run.key) (λ node. AreListsOf s (head_of s (members_of node)) c.in-Ok-read_lists.lists)) same c.in-Ok-read_lists.ensures in
    let are = subst (λ (o : Option Node). IfSome o (λ node. AreListsOf S (head_of S (members_of node)) c.in-Ok-read_lists.lists)) h.found said in
    let k = knows g.S.Source.left g.S.Source.still g.S.Source.read_faults S c.args.taker.now c.read_header.new.taker c.new-store.result c.read_header.new.store c.in-Ok.header h c.requires.first c.in-Ok-read_lists.lists (subst IsSchema same c.count-declarations.ensures.schema) c.schema-schema.ensures.roles are in
    has_parts g.S.Source.left g.S.Source.still g.S.Source.read_faults S c.args.taker.now c.read_header.new.taker c.new-store.result c.read_header.new.store c.in-Ok.header h c.requires.first c.in-Ok-read_lists.lists k c.read_rest.new.bounds.nodes c.read_rest.new.taker c.read_rest.new.store
    c.in-Ok-read_rest.rest.0 c.in-Ok-read_rest.rest.1 (c.in-Ok-read_rest.ensures.ok h.members k)
    _ (ap (λ (s : Trees). s.trees) c.new-store.ensures) refl c.in-Ok-read_rest.ensures.building refl refl refl refl refl refl c.place.ensures.place refl c.is_indexed-indexed.ensures c.into_names.ensures
