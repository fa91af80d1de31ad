use Rattle.std.proofs.Common.{◌≡◌, false, [], ◌∷◌, ◌++◌, sym, ◌∙◌, ap, subst, rules}
use Rattle.std.specs.declared.ops.Bound.TheVariants.{Included, Unbounded}
use Rattle.std.specs.BTreeMap.Range.{entries_between}
use Rattle.std.specs.List.{filter_map}
use Rattle.std.specs.Map.{keys_of}
use Rattle.std.specs.FinMap as map
use Rattle.std.proofs.lemmas.List.{append-nil}
use Rattle.fs_model.specs.Names.{path_cmp, is_under}
use Rattle.fs_model.specs.Calls.{child_name}
use Rattle.fs_maps.proofs.Subtrees.{IsRest, range_rest, rest_tail, rest_none, append_option, names_of_map}
use Rattle.fs_maps.proofs.path_map.PathMap.children.Goals as goal

pub loop-path-init : goal.loop-path-init
loop-path-init g c =
    let dir = c.args.dir.now in
    let es = c.self.inside.entries.entries in
    let given : c.into_iter-path-iterator.result ≡ entries_between path_cmp (Included dir) Unbounded es = c.into_iter-path-iterator.ensures.into_iter_gives ∙ c.range-path-items.ensures.between tt in
    record {
      names = ap (λ names. names ++ filter_map (child_name dir) (keys_of c.into_iter-path-iterator.result)) c.new-names.ensures.items;
      rest = subst (λ es. IsRest dir (keys_of es)) (sym given) (range_rest dir es c.range-path-items.ensures.ordered);
    }

pub loop-path-preserved : goal.loop-path-preserved
loop-path-preserved g c =
    let dir = c.args.dir.now in
    let path = c.in-Some.path.now in
    let others = keys_of c.next.new.self in
    let step : keys_of c.loop-path.path-iterator ≡ path ∷ others = ap keys_of c.in-Some.ensures.steps in
    let names = c.loop-path.names.items in
    record {
      names = ap (λ names. names ++ filter_map (child_name dir) others) c.in_ok-add_child.ensures ∙ append_option names (child_name dir path) (filter_map (child_name dir) others)
          ∙ sym (ap (λ paths. names ++ filter_map (child_name dir) paths) step) ∙ c.loop-path.invariant.names;
      rest = rest_tail dir path others (subst (IsRest dir) step c.loop-path.invariant.rest);
    }

pub returns-then-not-is_under : goal.returns-then-not-is_under
returns-then-not-is_under g c =
    let dir = c.args.dir.now in
    let es = c.self.inside.entries.entries in
    let given : c.into_iter-path-iterator.result ≡ entries_between path_cmp (Included dir) Unbounded es = c.into_iter-path-iterator.ensures.into_iter_gives ∙ c.range-path-items.ensures.between tt in
    let path = c.in-Some.path.now in
    let others = keys_of c.next.new.self in
    let step : keys_of c.loop-path.path-iterator ≡ path ∷ others = ap keys_of c.in-Some.ensures.steps in
    let out : is_under dir path ≡ false = search rules in
    let none : filter_map (child_name dir) (keys_of c.loop-path.path-iterator) ≡ [] =
    ap (filter_map (child_name dir)) step ∙ rest_none dir path others (subst (IsRest dir) step c.loop-path.invariant.rest) out in
    let whole : filter_map (child_name dir) (keys_of c.into_iter-path-iterator.result) ≡ filter_map (child_name dir) (map.keys c.args.self.now) =
    ap (λ es. filter_map (child_name dir) (keys_of es)) given ∙ names_of_map dir es c.args.self.now c.range-path-items.ensures.ordered c.self.view_is in
    sym (append-nil c.loop-path.names.items) ∙ sym (ap (λ names. c.loop-path.names.items ++ names) none) ∙ c.loop-path.invariant.names ∙ whole

pub returns : goal.returns
returns g c =
    let dir = c.args.dir.now in
    let es = c.self.inside.entries.entries in
    let given : c.into_iter-path-iterator.result ≡ entries_between path_cmp (Included dir) Unbounded es = c.into_iter-path-iterator.ensures.into_iter_gives ∙ c.range-path-items.ensures.between tt in
    let whole : filter_map (child_name dir) (keys_of c.into_iter-path-iterator.result) ≡ filter_map (child_name dir) (map.keys c.args.self.now) =
    ap (λ es. filter_map (child_name dir) (keys_of es)) given ∙ names_of_map dir es c.args.self.now c.range-path-items.ensures.ordered c.self.view_is in
    sym (append-nil c.loop-path.names.items) ∙ sym (ap (λ es. c.loop-path.names.items ++ filter_map (child_name dir) (keys_of es)) c.in-None.ensures.steps.0)
    ∙ c.loop-path.invariant.names ∙ whole
