use Rattle.{std.proofs.Common.{◌≡◌, refl, ap, sym}, client_world.specs.declared.registers.Regs.{Regs}}
use Rattle.{exec_core.specs.Stacks.{pusha, with_pushed_register}, insn_forms.specs.declared.insn.Insn.{Insn}}
use Rattle.insn_plan.specs.{Act.{Pending, done, unchanged}, Stack.{with_push}}
use Rattle.exec_core.proofs.{Parts.{push_is}, stacks.eight_pushes.Goals.{returns as goal}}

pub returns : goal
unfolding pusha
returns c =
    let w = c.args.m.now.world in
    let width = c.args.width in
    let r = c.registers-r.result.now in
    let big = c.args.big in
    let own : r ≡ w.regs = c.registers-r.ensures in
    let p0 = unchanged w in
    let p1 = with_push c.item_pushed-esp.result.0 c.item_pushed-esp.result.1 p0 in
    let p2 = with_push c.item_pushed-esp-2.result.0 c.item_pushed-esp-2.result.1 p1 in
    let p3 = with_push c.item_pushed-esp-3.result.0 c.item_pushed-esp-3.result.1 p2 in
    let p4 = with_push c.item_pushed-esp-4.result.0 c.item_pushed-esp-4.result.1 p3 in
    let p5 = with_push c.item_pushed-esp-5.result.0 c.item_pushed-esp-5.result.1 p4 in
    let p6 = with_push c.item_pushed-esp-6.result.0 c.item_pushed-esp-6.result.1 p5 in
    let p7 = with_push c.item_pushed-esp-7.result.0 c.item_pushed-esp-7.result.1 p6 in
    let p8 = with_push c.item_pushed-esp-8.result.0 c.item_pushed-esp-8.result.1 p7 in
    let e1 : with_pushed_register w width 0 p0 ≡ p1 =
    push_is w big width 0 c.register.result (r.esp) c.item_pushed-esp.result.0 c.item_pushed-esp.result.1 p0 r c.requires own
    c.register.ensures (ap (λ (s : Regs). s.esp) (sym own)) c.item_pushed-esp.ensures in
    let e2 : with_pushed_register w width 1 p1 ≡ p2 =
    push_is w big width 1 _ _ _ _ p1 r c.requires own c.register-2.ensures refl c.item_pushed-esp-2.ensures in
    let e3 : with_pushed_register w width 2 p2 ≡ p3 =
    push_is w big width 2 _ _ _ _ p2 r c.requires own c.register-3.ensures refl c.item_pushed-esp-3.ensures in
    let e4 : with_pushed_register w width 3 p3 ≡ p4 =
    push_is w big width 3 _ _ _ _ p3 r c.requires own c.register-4.ensures refl c.item_pushed-esp-4.ensures in
    let e5 : with_pushed_register w width 4 p4 ≡ p5 =
    push_is w big width 4 _ _ _ _ p4 r c.requires own c.register-5.ensures refl c.item_pushed-esp-5.ensures in
    let e6 : with_pushed_register w width 5 p5 ≡ p6 =
    push_is w big width 5 _ _ _ _ p5 r c.requires own c.register-6.ensures refl c.item_pushed-esp-6.ensures in
    let e7 : with_pushed_register w width 6 p6 ≡ p7 =
    push_is w big width 6 _ _ _ _ p6 r c.requires own c.register-7.ensures refl c.item_pushed-esp-7.ensures in
    let e8 : with_pushed_register w width 7 p7 ≡ p8 =
    push_is w big width 7 _ _ _ _ p7 r c.requires own c.register-8.ensures refl c.item_pushed-esp-8.ensures in
    let pushes : with_pushed_register w width 7
    (with_pushed_register w width 6 (with_pushed_register w width 5 (with_pushed_register w width 4
    (with_pushed_register w width 3 (with_pushed_register w width 2 (with_pushed_register w width 1 (with_pushed_register w width 0
    (unchanged w)))))))) ≡ p8 = cc in
    λ (i : Insn) same. rw same (ap (λ (p : Pending). done p) pushes)
