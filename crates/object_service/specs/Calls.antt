-- What calls do to the blocks and the contents of objects.
use Rattle.std.specs.Prelude.{◌≡◌, ◌≢◌, ℕ, ◌-◌, ◌<◌, ◌≤◌, List, length, Some, None}
use Rattle.std.specs.FinMap.{get}
use Rattle.trade_base.specs.declared.refusal.Refusal.{Refusal}
use Rattle.trade_base.specs.declared.refusal.Refusal.TheVariants.{InvalidSize}
use Rattle.own_model.specs.Account.{charged}
use Rattle.own_model.specs.FileService.{error_of}
use Rattle.own_model.specs.FileText as files
use Rattle.own_model.specs.Nodes.{content_ram, content_caps}
use Rattle.own_model.specs.ObjectText.{ObjectError}
use Rattle.own_model.specs.ObjectText.ObjectError.{Shared}
use Rattle.own_model.specs.OwnHeap.{chunk_with, offset_of}
use Rattle.own_model.specs.Heap.{header}
use Rattle.own_model.specs.Sliced.{sliced_header, sliced_size}
use Rattle.session_nodes.specs.NodeList.{nodes_in, HasNodes}
use Rattle.session_nodes.specs.Order.{node_at, user_at, OthersStay}
use Rattle.session_nodes.specs.SoundHeaps.{Stock}
use Rattle.session_nodes.specs.declared.node_list.NodeList.{NodeList}
use Rattle.object_service.specs.Objects.{word_at, units_at}

-- why a request is refused, by the refusal of a block or of a content
abbrev pub refusal_error : Refusal → ObjectError
refusal_error InvalidSize = Shared files.FileError.InvalidSize
refusal_error refusal = Shared (error_of refusal)

-- a new content of so many bytes is taken, or none for no bytes; no node has it
pub record TakesContent (size content : ℕ) (old new : Stock) : Type 0 where
  pub account : new.account ≡ charged old.account (content_ram size) (content_caps size)
  pub nodes : new.nodes ≡ old.nodes
  pub free : 0 < size → get old.contents content ≡ None
  pub payload : List ℕ
  pub there : 0 < size → get new.contents content ≡ Some payload
  pub long : length payload ≡ sliced_size size - sliced_header
  pub others : (a : ℕ) → (0 < size → a ≢ content) → get new.contents a ≡ get old.contents a

-- the two words of an object are put after its node, and nothing else changes
pub record PutsWords (list : NodeList) (address word units : ℕ) (old new : Stock) : Type 0 where
  pub kept : HasNodes list new
  pub listed : nodes_in list new ≡ nodes_in list old
  pub others : OthersStay old.nodes new.nodes old.contents new.contents (nodes_in list old) address
  pub node_is : node_at new.nodes address ≡ node_at old.nodes address
  pub room : 16 ≤ length (user_at new.nodes address)
  pub word_is : word_at new.nodes address ≡ word
  pub units_are : units_at new.nodes address ≡ units
  pub chunk : chunk_with new.nodes (address - header) ≡ chunk_with old.nodes (address - header)
  pub offset : offset_of new.nodes (address - header) ≡ offset_of old.nodes (address - header)
  pub shape : new.nodes.shape ≡ old.nodes.shape
  pub account : new.account ≡ old.account
