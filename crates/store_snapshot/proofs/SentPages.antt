-- Items in pages may be sent to another thread and lent to others, where each of them may.
use denote.RattleType.{RattleType}
use denote.Param.Send.{IsSend, IsSync, recorded_send, recorded_sync, sendable, struct_send, struct_sync, view_send, view_sync}
use denote.Struct.Declared.{shape}
use Rattle.std.proofs.Crossing.{crosses, Arc-send, Arc-sync, Vec-send, Vec-sync}
use Rattle.std.proofs.option.Option.TheSendSync as option
use Rattle.page_tree.proofs.hints.Hints.TheSendSync as hints
use Rattle.page_tree.specs.declared.key.KeyOf.{Ghosts}
use Rattle.page_tree.specs.contracts.node.Node as Node
use Rattle.page_tree.specs.contracts.pages.Pages as Pages
use Rattle.page_tree.specs.contracts.pages.Pages.TheInside as Inside
use Rattle.page_tree.proofs.node.Node.TheLaws.TheKnot.{both_send-Node, both_sync-Node}

module _ (T : RattleType) (sent : IsSend T) (lent : IsSync T) where
  -- a node holds items, and nodes that others share
  node_send : IsSend (Node.the_row T)
  node_send =
      both_send-Node T
      (search sendable) (search sendable) (search (sendable, sent)) (search (sendable, hints.the_send)) (search (sendable, crosses, sent)) (λ h hs hy. Vec-send _ (Arc-send h hs hy))
      (search sendable) (search sendable) (search (sendable, lent)) (search (sendable, hints.the_sync)) (search (sendable, crosses, lent)) (λ h hs hy. Vec-sync _ (Arc-sync h hs hy))

  node_sync : IsSync (Node.the_row T)
  node_sync =
      both_sync-Node T
      (search sendable) (search sendable) (search (sendable, sent)) (search (sendable, hints.the_send)) (search (sendable, crosses, sent)) (λ h hs hy. Vec-send _ (Arc-send h hs hy))
      (search sendable) (search sendable) (search (sendable, lent)) (search (sendable, hints.the_sync)) (search (sendable, crosses, lent)) (λ h hs hy. Vec-sync _ (Arc-sync h hs hy))

  module _ (By Key : RattleType) (g : Ghosts By.Denot T.Denot Key.Denot) where
    inside_send : IsSend By → IsSend (Inside.the_field T By Key g).row
    inside_send by = struct_send (shape (Inside.the_type T By Key g)) (by, (option.the_field_send _ (Arc-send (Node.the_row T) node_send node_sync), tt))

    inside_sync : IsSync By → IsSync (Inside.the_field T By Key g).row
    inside_sync by = struct_sync (shape (Inside.the_type T By Key g)) (by, (option.the_field_sync _ (Arc-sync (Node.the_row T) node_send node_sync), tt))

    -- pages hold a way to find keys, and a node
    pub pages_send : IsSend By → IsSend (Pages.the_row T By Key g)
    pages_send by = view_send _ _ _ _ _ (recorded_send (Inside.the_field T By Key g).row _ _ (Inside.the_type T By Key g).to_one (inside_send by))

    pub pages_sync : IsSync By → IsSync (Pages.the_row T By Key g)
    pages_sync by = view_sync _ _ _ _ _ (recorded_sync (Inside.the_field T By Key g).row _ _ (Inside.the_type T By Key g).to_one (inside_sync by))
