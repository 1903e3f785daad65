-- The actions of the opcodes that a server takes; it takes every action that may begin an exchange.
use mathlib.Core.Path.{◌≡◌, refl}
use mathlib.Core.Bool.{true}
use Rattle.im_exchange.specs.declared.Action.{Action}
use Rattle.im_exchange.specs.declared.Action.TheVariants.{Status, Read, Write, Other}
use Rattle.im_exchange.specs.Rules.{status_opcode, read_opcode, write_opcode, action_of, beginning, server_takes}

pub status-action : action_of status_opcode ≡ Status
unfolding action_of
status-action = refl

pub read-action : action_of read_opcode ≡ Read
unfolding action_of
read-action = refl

pub write-action : action_of write_opcode ≡ Write
unfolding action_of
write-action = refl

pub begun-taken : (a : Action) → beginning a ≡ true → server_takes a ≡ true
begun-taken Status b = refl
begun-taken Read b = b
begun-taken Write b = b
begun-taken Other b = b
