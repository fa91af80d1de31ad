-- By what a proof tells states apart.
use Rattle.std.specs.Prelude.{ℕ, List, refl}
use Rattle.std.specs.Coded.{Coded, code_by, coded×, coded_ℕ, coded_list, coded_option}
use base.Stored.{coded_unit}
use Rattle.std.specs.Ordering.{nat_cmp}
use Rattle.std.specs.FinMap as map
use Rattle.fs_model.specs.declared.node.Node.{Node}
use Rattle.fs_model.specs.contracts.node.Node as node
use Rattle.fs_model.specs.Names.{Path, path_cmp}
use Rattle.fs_model.specs.State.{Names, Contents, Change, FsState}

abbrev pub path_code : Coded Path
path_code = coded_list (coded_list coded_ℕ)

abbrev pub node_code : Coded Node
node_code = node.the_row.coded

abbrev pub names_code : Coded Names
names_code = map.code path_code node_code

abbrev pub contents_code : Coded Contents
contents_code = map.code coded_ℕ (coded_list coded_ℕ)

abbrev pub change_code : Coded Change
change_code = coded_list (coded× path_code (coded_option node_code))

abbrev pub state_code : Coded FsState
state_code =
    code_by (Names × (Contents × (Names × (Contents × (List Change × (map.FinMap nat_cmp (Unit {0}) × map.FinMap path_cmp ℕ))))))
    (coded× names_code (coded× contents_code (coded× names_code (coded× contents_code (coded× (coded_list change_code) (coded× (map.code coded_ℕ coded_unit) (map.code path_code coded_ℕ)))))))
    (λ s. (s.names, (s.bytes, (s.names_kept, (s.bytes_kept, (s.pending, (s.dirty, s.devices)))))))
    (λ p. record { names = p.0; bytes = p.1.0; names_kept = p.1.1.0; bytes_kept = p.1.1.1.0; pending = p.1.1.1.1.0; dirty = p.1.1.1.1.1.0; devices = p.1.1.1.1.1.1 })
    (λ _. refl)
