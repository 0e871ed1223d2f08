pub mod PpmFiles
pub mod Laws
