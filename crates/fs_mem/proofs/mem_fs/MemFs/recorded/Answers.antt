use Rattle.std.proofs.Common.{length, take, ap, sym, ◌∙◌}
use Rattle.fs_mem.specs.Records.{told_from}
use Rattle.fs_mem.proofs.Told.{told_length, told_take}
use Rattle.fs_mem.proofs.mem_fs.MemFs.recorded.Goals as goal

pub returns-clause-told : goal.returns-clause-told
returns-clause-told c moment =
    let opening = c.self.inside.opening in
    let items = c.self.inside.done.items in
    ap (λ recorded. told_from c.args.self.now.opening (take moment recorded)) c.deref.ensures.value
    ∙ ap (λ v. told_from v.opening (take moment items)) (sym c.self.view_is) ∙ told_take opening items moment ∙ ap (λ v. take moment v.done) c.self.view_is

pub returns-clause-count : goal.returns-clause-count
returns-clause-count c =
    ap length c.deref.ensures.value ∙ sym (told_length c.self.inside.opening c.self.inside.done.items) ∙ ap (λ v. length v.done) c.self.view_is
