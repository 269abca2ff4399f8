pub mod PolicyLaws
pub mod OneLemmas
pub mod ShopLemmas
pub mod WorkLemmas
pub mod BatchLaws
pub mod PassLemmas
pub mod Sending
