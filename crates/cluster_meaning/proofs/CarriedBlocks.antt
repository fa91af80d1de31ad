-- What isn't carried has no blocks.
use Rattle.std.proofs.Common.{◌≡◌, ◌≢◌, ℕ, zero, suc, ◌+◌, ◌*◌, ◌==◌, ◌&&◌, ◌||◌, ◌∙◌, not, Bool, true, false, List, [], ◌∷◌, length, take, Option, Some, None, refl, ap, sym, arith, if◌then◌else◌, ne_eqb}
use lib.Dec.{eqb-suc-zero}
use Rattle.heap_page.specs.declared.layout.TheConstants.{PAGE_SIZE}
use Rattle.xact_status.specs.Files.{SegmentFiles}
use Rattle.relation_files.specs.declared.relation.Fork.{Fork}
use Rattle.relation_files.specs.Carried.{belongs, may_be_empty, is_reached, carried}
use Rattle.relation_files.proofs.Carried.{reached_more}
use Rattle.cluster_meaning.specs.Blocks.{blocks_then, blocks_from, blocks_of, most_blocks, most_segments}

reached_next : (fork : Fork) (files : SegmentFiles) (n : ℕ) → is_reached fork files n ≡ true
    → is_reached fork files (n + 1) ≡ belongs fork n (files n)
reached_next fork files n reached = reached_more fork files n ∙ ap (λ b. b && belongs fork n (files n)) reached

not_empty : (test : Bool) (n : ℕ) → (test || not (suc n == 0)) ≡ true
not_empty true n = refl
not_empty false n = ap not (eqb-suc-zero n)

-- a segment that doesn't belong to its fork has no blocks, and none behind it
left_out : (fork : Fork) (relseg_size n : ℕ) (file : Option (List ℕ)) (behind : List (List ℕ)) → relseg_size ≢ 0 → belongs fork n file ≡ false
    → blocks_then relseg_size file behind ≡ []
left_out fork relseg_size n None behind some fails = refl
left_out fork relseg_size n (Some []) behind some fails =
    let apart : 0 ≢ relseg_size * PAGE_SIZE = λ e. some (omega arith) in
    ap (λ full. if full then behind else []) (ne_eqb 0 (relseg_size * PAGE_SIZE) apart)
left_out fork relseg_size n (Some (b ∷ bytes)) behind some fails = absurd (let does = not_empty (may_be_empty fork n) (length bytes) in cc)

-- one step: a segment that belongs to the fork is carried, and another has no blocks
one_more : (fork : Fork) (relseg_size : ℕ) (files : SegmentFiles) (n count : ℕ) (test : Bool) → relseg_size ≢ 0 → is_reached fork files n ≡ true → belongs fork n (files n) ≡ test
    → (is_reached fork files (n + 1) ≡ true → blocks_from relseg_size (carried fork files) (n + 1) count ≡ blocks_from relseg_size files (n + 1) count)
    → blocks_then relseg_size (carried fork files n) (blocks_from relseg_size (carried fork files) (n + 1) count) ≡ blocks_then relseg_size (files n) (blocks_from relseg_size files (n + 1) count)
unfolding carried
one_more fork relseg_size files n count true some reached does behind =
    let next : is_reached fork files (n + 1) ≡ true = reached_next fork files n reached ∙ does in
    let is : carried fork files n ≡ files n = ap (λ test. if test then files n else None) next in
    λ i. blocks_then relseg_size (is i) (behind next i)
one_more fork relseg_size files n count false some reached fails behind =
    let next : is_reached fork files (n + 1) ≡ false = reached_next fork files n reached ∙ fails in
    let is : carried fork files n ≡ None = ap (λ test. if test then files n else None) next in
    ap (λ file. blocks_then relseg_size file (blocks_from relseg_size (carried fork files) (n + 1) count)) is
    ∙ sym (left_out fork relseg_size n (files n) (blocks_from relseg_size files (n + 1) count) some fails)

same_from : (fork : Fork) (relseg_size : ℕ) (files : SegmentFiles) (n count : ℕ) → relseg_size ≢ 0 → is_reached fork files n ≡ true
    → blocks_from relseg_size (carried fork files) n count ≡ blocks_from relseg_size files n count
same_from fork relseg_size files n zero some reached = refl
same_from fork relseg_size files n (suc count) some reached =
    one_more fork relseg_size files n count (belongs fork n (files n)) some reached refl (same_from fork relseg_size files (n + 1) count some)

-- a fork has the blocks of its carried files
pub carried_blocks : (fork : Fork) (relseg_size : ℕ) (files : SegmentFiles) → relseg_size ≢ 0 → blocks_of relseg_size (carried fork files) ≡ blocks_of relseg_size files
unfolding blocks_of
carried_blocks fork relseg_size files some = ap (take most_blocks) (same_from fork relseg_size files 0 most_segments some refl)
